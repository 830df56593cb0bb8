use Rattle.std.proofs.Common.{rules, length, ap, arith}
use Rattle.register.specs.Registers.{setup_of, classes_of}
use Rattle.register.proofs.Placing.{at_class, past_classes}
use Rattle.register.proofs.Register.among.Goals as goal

pub returns-in_err-same-clause-value : goal.returns-in_err-same-clause-value
returns-in_err-same-clause-value c =
    let g = c.args.self.now in
    let s = at_class (setup_of g) c.args.entry (length c.args.nodes.now) (classes_of g) c.classes.k-counter
    (omega (arith, c.classes-test.true, ap length c.as_slice-stand-items.ensures)) c.classes.invariant.rest in search rules

pub returns-then-same-clause-value : goal.returns-then-same-clause-value
returns-then-same-clause-value c =
    let g = c.args.self.now in
    let s = at_class (setup_of g) c.args.entry (length c.args.nodes.now) (classes_of g) c.classes.k-counter
    (omega (arith, c.classes-test.true, ap length c.as_slice-stand-items.ensures)) c.classes.invariant.rest in search rules

pub classes-preserved : goal.classes-preserved
classes-preserved c =
    let g = c.args.self.now in
    let s = at_class (setup_of g) c.args.entry (length c.args.nodes.now) (classes_of g) c.classes.k-counter
    (omega (arith, c.classes-test.true, ap length c.as_slice-stand-items.ensures)) c.classes.invariant.rest in record { blank = search rules; rest = search rules }

pub returns-clause-value : goal.returns-clause-value
returns-clause-value c = search (rules, past_classes)
