-- `report::text::Text::push_number` writes the digits of the rest, then the last. Assumes nothing.
use Rattle.std.proofs.Common.{rules, ◌∙◌, ap, sym, append_assoc, ◌++◌, ◌∷◌, [], ◌+◌, ◌-◌, ◌/◌, ◌%◌}
use Rattle.definitions.specs.Program.{decimal_in}
use Rattle.report.proofs.Digits.{more_digits}
use Rattle.report.proofs.text.Text.+push_number.Goals as goal

pub returns-clause-text : goal.returns-clause-text
returns-clause-text t c =
    let last = (48 + c.args.n % 10) ∷ [] in
    let rest = decimal_in (c.args.most - 1) (c.args.n / 10) in
    c.push-2.ensures ∙ ap (λ x. x ++ last) c.push_number.ensures.text ∙ append_assoc c.args.self.now rest last
    ∙ ap (λ x. c.args.self.now ++ x) (sym (more_digits c.args.most c.args.n (search rules) (search rules)))
