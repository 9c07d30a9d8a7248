-- `making::expose::type_names` meets its contract. Assumes nothing.
use Rattle.making.proofs.expose.+type_names.Given as goal

abbrev pub decreases-type_names : goal.decreases-type_names
decreases-type_names l = l.names
