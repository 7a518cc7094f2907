-- `text::put_page` meets its contract.
use Rattle.std.proofs.Common.{arith, ◌∙◌}
use Rattle.text.proofs.Buffer.{put_first}
use Rattle.text.proofs.put_page.Goals as goal

pub returns : goal.returns
returns g c = put_first _ _ _ _ (omega arith) (c.copy_from_slice.ensures.after ∙ c.as_slice.ensures.value) c.len-size.ensures.value
