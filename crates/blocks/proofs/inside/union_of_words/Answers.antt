-- `blocks::inside::union_of_words` meets its contract: the data words passed are gathered. Assumes nothing.
use Rattle.definitions.specs.Words.{data_word}
use Rattle.sets.proofs.Ranges.{fold_between}
use Rattle.blocks.proofs.Unions.{Gathered, gathered_start, gathered_end, unions}
use Rattle.blocks.proofs.inside.union_of_words.Goals as goal

pub returns : goal.returns
returns c =
    let word = data_word c.args.block.now in
    let e = fold_between _ (Gathered word c.args.from c.args.to) _ c.args.from c.args.to (λ i a b f p l k. (search unions, search unions)) _ _
    (gathered_start word c.args.from c.args.to) c.fold.ensures.ran in
    gathered_end word c.args.from c.args.to e.0 _ e.3 e.1
