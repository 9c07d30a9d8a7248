-- `first_broken::boxes::Checking::site` meets its contract: the site's record is the model's. Assumes nothing.
use Rattle.first_broken.proofs.Facts.{site_62}
use Rattle.first_broken.proofs.boxes.Checking.site.Goals as goal

pub clause2-requires-clause-name : goal.clause2-requires-clause-name
clause2-requires-clause-name c =
    let pre = c.requires in
    let self = c.args.self.now in
    let at = self.model.of.frame.at _ pre.inside in
    site_62 _ _ self.unrefused _ pre.inside _ at _ c.site-s.result (rw at pre.listed) (rw c.block-block.ensures at c.site-s.ensures)
