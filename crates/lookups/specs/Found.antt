-- Sites and their types, as they are looked for. Assumes nothing.
use Rattle.std.specs.Prelude.{Bool, List, ℕ}
use Rattle.definitions.specs.Bounded.{◌and◌, ◌is◌, ◌isnt◌, any_below}
use Rattle.definitions.specs.Limits.{type_limit}
use Rattle.definitions.specs.Record.{site, subject, flag, type_word}

-- site i has v as its subject, and is shown (0) or hidden (1)
unfoldable pub site_is : List ℕ → ℕ → ℕ → ℕ → Bool
site_is r v f i = subject (site r i) is v and flag (site r i) is f

-- word j of a site's type is v; some word is; word j is a held name that another site's type has
unfoldable pub type_is : List ℕ → ℕ → ℕ → Bool
type_is y v j = v is type_word y j

unfoldable pub type_has : List ℕ → ℕ → Bool
type_has y v = any_below type_limit (type_is y v)

unfoldable pub shared_at : List ℕ → List ℕ → ℕ → Bool
shared_at x y j = type_word x j isnt 0 and type_has y (type_word x j)
