-- `making::expose::append_site` meets its contract. Assumes nothing.
use Rattle.making.proofs.Exposes.{site_names, site-room}
use Rattle.making.proofs.expose.append_site.Goals as goal

pub type_names-requires-clause-names : goal.type_names-requires-clause-names
type_names-requires-clause-names c = site_names c.requires.names c.requires.room _ _ c.sites-n.ensures

pub type_names-requires-clause-room : goal.type_names-requires-clause-room
type_names-requires-clause-room c = site-room c.requires.names c.requires.room _ _ c.sites-n.ensures
