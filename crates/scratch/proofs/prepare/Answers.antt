-- `scratch::prepare` meets its contract: the survey's words, with MD added to the rows.
use Rattle.scratch.proofs.Prepared.{addable, prepared}
use Rattle.scratch.proofs.prepare.Goals as goal

pub add_md-requires : goal.add_md-requires
add_md-requires c = addable c.requires c.survey.ensures

pub returns : goal.returns
returns c = prepared c.requires c.survey.ensures c.add_md.ensures
