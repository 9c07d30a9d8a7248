-- `report::text::Text::push_all` leaves zeros behind the text. Assumes nothing.
use Rattle.std.proofs.Common.{rules, ◌∙◌, ◌+◌, ◌-◌, length, arith}
use borrow.Rule.Slice.PartMut.{same_len_mid}
use Rattle.report.proofs.Rest.{rest_put}
use Rattle.report.proofs.text.Text.push_all.Goals as goal

pub invariant_of-self : goal.invariant_of-self
invariant_of-self c =
    let n = c.self.inside.len in
    let m = n + length c.args.s.now in
    let whole = same_len_mid n (m - n) c.self.inside.bytes c.copy_from_slice.new.self c.copy_from_slice.ensures.len ∙ c.self.told in
    (search rules, whole, rest_put c.self.inside.bytes c.copy_from_slice.new.self n m (omega arith) (search rules) (search rules) c.self.invariant.2)
