-- An input that row 15 passes has at most 16,384 words.
use Rattle.std.proofs.Common.{arith}
use Rattle.input.proofs.Words.{input_refusal-passed}
use Rattle.page.proofs.boards.of_words.Goals as goal

pub decode-n-requires : goal.decode-n-requires
decode-n-requires g c = omega (arith, input_refusal-passed c.args.bytes.now c.requires)
