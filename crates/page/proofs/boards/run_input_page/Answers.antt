-- What was read is answered by its page.
use Rattle.std.proofs.Common.{◌<◌, rules, arith, length, subst, take}
use Rattle.std.specs.Io.KnownBytes.{Appends}
use Rattle.page.proofs.Pages.{input_page-whole}
use Rattle.page.proofs.boards.run_input_page.Goals as goal

pub shared_whole_as_front-write_all : goal.shared_whole_as_front-write_all
shared_whole_as_front-write_all g c =
    (omega (arith, c.page_of-size.ensures.fits), omega (arith, c.requires.1))

pub returns : goal.returns
returns g c =
    let reading = c.read_full-reading in
    let bytes = take reading.result.count reading.new.bytes in (
      bytes,
      reading.ensures.taken,
      subst (Appends _ _) c.page_of-size.ensures.out_after c.in_ok-write_all.ensures.bytes,
      λ whole. input_page-whole (g.P.BoardPage.shown c.args.pages.now) _ _ bytes reading.ensures.taken (λ (few : length bytes < 65537). reading.ensures.ended whole (search rules)),
    )
