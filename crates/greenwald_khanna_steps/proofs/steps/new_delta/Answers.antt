-- `greenwald_khanna_steps::steps::new_delta` meets its contract: one law for each end, and one for the places between.
-- Assumes nothing.
use mathlib.Core.Path.{◌∙◌}
use Rattle.fraction.specs.Products.{p_of}
use Rattle.fraction.proofs.Tests.{within_true}
use Rattle.greenwald_khanna_steps.proofs.Halves.{delta_end, delta_between}
use Rattle.greenwald_khanna_steps.proofs.steps.new_delta.Goals as goal

pub returns-then-pos-eq0 : goal.returns-then-pos-eq0
returns-then-pos-eq0 c = delta_end (p_of c.args.epsilon c.args.n) c.args.pos c.args.held c.then-pos-eq0.either

pub returns : goal.returns
returns c =
    c.p.ensures
    ∙ within_true (p_of c.args.epsilon c.args.n) c.requires
    ∙ delta_between (p_of c.args.epsilon c.args.n) c.args.pos c.args.held c.if-pos-eq0.false c.if-pos-held.false
