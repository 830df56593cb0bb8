-- The table and the hierarchy that a plan stands for.
use Rattle.std.specs.Prelude.{ℕ, ◌-◌, slice_index}
use Rattle.words.specs.Sets.{has}
use Rattle.meaning.specs.Orders.{RoleBox}
use Rattle.tableau.specs.Entries.{Table}
use Rattle.plan.specs.declared.Plan.{Plan}
use Rattle.plan.specs.Plans.{listed_entry}

abbrev pub table_in : Plan → Table
table_in p = record { width = p.width; plain = p.plain; entry = listed_entry p.entries; propagates = λ i j. has (slice_index p.propagated i) j }

abbrev pub box_in : Plan → RoleBox
box_in p = record { count = p.count; below = λ r s. has (slice_index p.rows r) s; transitive = has p.marks }

-- the roles of the book: all of the plan's but the universal one, which is the last
abbrev pub plan_roles : Plan → ℕ
plan_roles p = p.count - 1
