-- By the first byte.
use Rattle.std.proofs.Common.{◌<◌, get_or, sym, ◌∙◌, arith}
use Rattle.std.proofs.lemmas.Bool.Decides.{nat_tests}
use Rattle.scalar.proofs.Laws.{leads_empty, leads-minus, leads-plus, leads-digit, leads-none}
use Rattle.scalar.proofs.to_i64_t.Goals as goal

pub returns-in_default-clause-result_value : goal.returns-in_default-clause-result_value
returns-in_default-clause-result_value c = sym (leads_empty _ (omega arith))

pub returns-in-45-clause-result_value : goal.returns-in-45-clause-result_value
returns-in-45-clause-result_value c =
    c.number_from.ensures.result_value ∙ sym (leads-minus c.args.s.now (omega arith) (omega arith))

pub returns-in-43-clause-result_value : goal.returns-in-43-clause-result_value
returns-in-43-clause-result_value c =
    c.number_from-in-43.ensures.result_value ∙ sym (leads-plus c.args.s.now (omega arith) (omega arith) (omega arith))

pub returns-in-48-to-57-clause-result_value : goal.returns-in-48-to-57-clause-result_value
returns-in-48-to-57-clause-result_value c =
    (rw c.from.ensures at c.number_from-in-48-to-57.ensures.result_value)
    ∙ sym (leads-digit c.args.s.now (omega arith) (λ e. omega arith) (λ e. omega arith) (omega arith) (omega arith))

pub returns-in_default-b-clause-result_value : goal.returns-in_default-b-clause-result_value
returns-in_default-b-clause-result_value c =
    let low : get_or c.args.s.now 0 0 < 48 = omega arith in
    sym (leads-none c.args.s.now (omega arith) (λ e. omega arith) (λ e. omega arith) (grind (arith, nat_tests)))

pub returns-in_default-b-2-clause-result_value : goal.returns-in_default-b-2-clause-result_value
returns-in_default-b-2-clause-result_value c =
    let high : 57 < get_or c.args.s.now 0 0 = omega arith in
    sym (leads-none c.args.s.now (omega arith) (λ e. omega arith) (λ e. omega arith) (grind (arith, nat_tests)))
