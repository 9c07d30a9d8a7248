-- `runs::run_each` meets its contract. Assumes nothing.
use mathlib.Core.Path.{◌≡◌, sym, ap, ◌∙◌}
use native.Mathlib.Omega.{arith}
use lib.ListN.{length-map, set}
use Rattle.std.proofs.lemmas.List.{get_or-map}
use Rattle.lookups.specs.Ready.{Ready}
use Rattle.runs.proofs.Fold.{no_move, moves_start, moves_turn}
use Rattle.runs.proofs.run_each.Goals as goal

pub loop-i-init : goal.loop-i-init
loop-i-init g c =
    let e : c.by_fields-read.result.image.now ≡ c.in_ok-begin.field-0.image.now = ap (λ b. b.now) c.by_fields-read.ensures.image in
    let ready : Ready c.by_fields-read.result c.args.state.now = record { fits = rw e c.in_ok-begin.ensures.ready.fits } in
    moves_start _ _ _ _ _ (length-map c.args.moves.now g.T.Listed.as_move) c.by_fields-read.result c.in_ok-begin.ensures.answer ready (e ∙ c.in_ok-begin.ensures.image)

pub loop-i-preserved : goal.loop-i-preserved
loop-i-preserved g c =
    let f = g.T.Listed.as_move in
    moves_turn _ _ _ _ _ _ _ _ c.loop-i.invariant (omega (arith, c.loop-i-test.true, length-map c.args.moves.now f)) _
    (get_or-map f c.args.moves.now c.loop-i.i c.index-moves-i.result no_move c.loop-i-test.true ∙ ap f (sym c.index-moves-i.is) ∙ sym (c.from.ensures ∙ c.get.ensures))
    _ _ c.turn.ensures.words (ap (set c.loop-i.answers c.loop-i.i) (c.number.ensures ∙ c.turn.ensures.answer)) c.turn.ensures.keeps
