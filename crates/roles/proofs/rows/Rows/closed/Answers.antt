use Rattle.std.proofs.Common.{◌≡◌, ℕ, length, rules, arith, sym, ◌∙◌, subst}
use Rattle.meaning.specs.Orders.{Lawful}
use Rattle.roles.specs.Closure.{closure}
use Rattle.roles.specs.Rows.{related}
use Rattle.roles.specs.Laws.{closure_law, marked_inside}
use Rattle.roles.proofs.Closures.{closure_told}
use Rattle.roles.proofs.Filling.{rows_all, lawful_like}
use Rattle.roles.proofs.rows.Rows.closed.Goals as goal
use Rattle.roles.proofs.rows.Rows.closed.Goals.{After-marks}

-- the rows are those of the told inclusions
rows_are : (c : After-marks) → (r s : ℕ) → related c.tabulate.result r s ≡ closure (length c.new-told.result.roles.now) c.new-told.result.pairs.now r s
rows_are c =
    let x = c.new-told.result in
    let n = length x.roles.now in
    rows_all n (closure n x.pairs.now) c.tabulate.result (search rules) (closure_law n x.pairs.now x.few) (λ r s l. let e = c.tabulate.ensures r l in search rules)

pub invariant_of-result : goal.invariant_of-result
invariant_of-result c =
    let x = c.new-told.result in
    let n = length x.roles.now in
    let rows = related c.tabulate.result in
    let law = lawful_like n rows (closure n x.pairs.now) (rows_are c) (closure_law n x.pairs.now x.few) in
    record {
      few = search rules;
      law = ∣ subst (λ m. Lawful m rows) (sym c.count.ensures) law ∣₁;
      inside = λ r e. let l = marked_inside x.roles.now r (sym (c.marks.ensures r) ∙ e) in omega (arith, c.count.ensures);
    }

pub returns : goal.returns
returns c =
    let x = c.new-told.result in
    let e = c.new-told.ensures in
    let is = rows_are (goal.at.returns c).After-marks in
    rw (sym e.roles) (rw (sym e.pairs) (record {
      count = c.count.ensures;
      relation = is;
      chains = λ r s. closure_told (length x.roles.now) x.pairs.now x.inside r s (related c.tabulate.result r s) (is r s);
      transitive = c.marks.ensures;
    }))
