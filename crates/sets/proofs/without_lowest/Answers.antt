-- `sets::without_lowest` meets its contract: s and one less than s share every member but the lowest. Assumes nothing.
use Rattle.sets.proofs.Walk.{rest_word}
use Rattle.std.proofs.Common.{rules}
use Rattle.sets.proofs.without_lowest.Goals as goal

pub returns : goal.returns
returns c = search (rules, rest_word)
