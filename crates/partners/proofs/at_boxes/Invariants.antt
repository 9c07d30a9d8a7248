-- `partners::at_boxes` meets its contract: the boxes passed are short of nothing. Assumes nothing.
use Rattle.definitions.specs.Estimate.{estimate_of}
use Rattle.definitions.proofs.Loops.{Passed}
use Rattle.partners.specs.Partners.{of_box}
use Rattle.partners.proofs.at_boxes.Given as goal

abbrev pub invariant-loop-k : goal.invariant-loop-k
invariant-loop-k l = Passed l.e.boxes (of_box (estimate_of l.e.image.now) l.b l.x l.q) l.k
