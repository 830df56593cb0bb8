use Rattle.found.specs.Founds.{kept_world, kept_sized}
use Rattle.register.specs.Showing.{side_number}
use Rattle.register.proofs.Showing.{found_granted, drawn_sheet}
use Rattle.register.proofs.Register.put_on.Goals as goal

pub returns-in_err-individuals-clause-sheet : goal.returns-in_err-individuals-clause-sheet
returns-in_err-individuals-clause-sheet c =
    let g = c.args.self.now in
    let w = c.in_ok-world.world in
    let made = c.in_ok-world.ensures in
    drawn_sheet g.plan g.entries c.args.nodes.now (side_number c.args.side) c.args.sheet.now
    (kept_world w.nodes.now w.roles w.names w.rows) (kept_sized w.nodes.now w.roles w.names w.rows) made.world
    (found_granted c.args.nodes.now w.nodes.now made.value) c.draw.new.words (simp c.role_count.ensures at c.in_err-individuals.ensures.words)

pub returns-clause-sheet : goal.returns-clause-sheet
returns-clause-sheet c =
    let g = c.args.self.now in
    let w = c.in_ok-world.world in
    let made = c.in_ok-world.ensures in
    drawn_sheet g.plan g.entries c.args.nodes.now (side_number c.args.side) c.args.sheet.now
    (kept_world w.nodes.now w.roles w.names w.rows) (kept_sized w.nodes.now w.roles w.names w.rows) made.world
    (found_granted c.args.nodes.now w.nodes.now made.value) c.draw.new.words (simp c.role_count.ensures at c.in_ok-individuals.ensures.words)
