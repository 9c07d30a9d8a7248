-- Refusals 6 to 9, each over the whole model. Assumes nothing.
use Rattle.std.proofs.Math.Option.{Option}
use Rattle.definitions.specs.Answer.{Refusal}
use Rattle.definitions.specs.Model.{Model, site_count, line_count}
use Rattle.definitions.specs.ReadModel.{site_fits, reach_fits, first_misfit}
use Rattle.box_runs.specs.Runs.{line_fit, tree_fit}

-- 6 to 9, each over the whole model
abbrev pub sites_misfit : Model → Option Refusal
sites_misfit m = first_misfit 6 m site_count (site_fits m)

abbrev pub lines_misfit : Model → Option Refusal
lines_misfit m = first_misfit 7 m line_count (line_fit m)

abbrev pub trees_misfit : Model → Option Refusal
trees_misfit m = first_misfit 8 m line_count (tree_fit m)

abbrev pub reach_misfit : Model → Option Refusal
reach_misfit m = first_misfit 9 m line_count (reach_fits m)
