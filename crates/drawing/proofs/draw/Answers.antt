use Rattle.std.proofs.Common.{◌≡◌, ◌+◌, ◌-◌, ◌*◌, ◌<◌, length, drop, sym, ap, ◌∙◌, subst, add-mul, arith, rules}
use Rattle.std.proofs.lemmas.List.{length-drop, length-take}
use borrow.Rule.Slice.PartMut.{put_mid}
use Rattle.sheet.specs.Sheets.{needed}
use Rattle.sheet.proofs.Sets.{set_tested}
use Rattle.drawing.specs.Drawings.{word_at, drawn_on, Drawn}
use Rattle.drawing.proofs.Overlays.{overlaid, Written, written_more, overlaid_first, overlaid_part, overlaid_at, rows_within, word_name, word_row, length_overlaid}
use Rattle.drawing.proofs.Sheets.{drawn_is, drawn_not, suffices, falls_short, granted_is, denied_is, drawing_right}
use Rattle.drawing.proofs.draw.Goals as goal

-- too few words: nothing is written
pub returns-then-words-needed : goal.returns-then-words-needed
returns-then-words-needed g c =
    let W = g.W.World.interpretation c.args.world.now in
    let m = c.individuals-m.result in
    let words = c.args.words.now in
    let short = falls_short c.args.roles m (length words) W c.individuals-m.ensures c.if-words-needed.true in
    record {
      value = denied_is c.args.roles m (length words) W c.individuals-m.ensures c.if-words-needed.true;
      words = sym (drawn_not c.args.roles W words short);
      right = tt;
    }

-- before the names
pub names-init : goal.names-init
names-init g c = record { long = search rules; known = λ k l. absurd (omega arith) }

-- the next name
pub names-preserved : goal.names-preserved
names-preserved g c =
    let W = g.W.World.interpretation c.args.world.now in
    let n = c.names.n in
    let few : n < 64 = omega (arith, c.names-test.true, c.names.auto.word-items, c.names.invariant.long) in
    written_more W 1 64 n _ c.names.word-items few c.names.invariant (c.bearers.ensures ∙ set_tested W.size n 64 (λ x. W.bears x n) few ∙ sym (word_name W n few))

-- after the names
pub roles-init : goal.roles-init
roles-init g c =
    let W = g.W.World.interpretation c.args.world.now in
    let m = c.individuals-m.result in
    let words = c.args.words.now in
    let i = c.names.invariant in
    let all : Written W 1 64 64 c.names.word-items =
    record { long = i.long; known = λ k l. i.known k (omega (arith, c.names-test.false, c.names.auto.word-items, i.long)) } in
    overlaid_at W 65 (65 + 0 * m) words _ (omega arith)
    (overlaid_part W 1 64 words _ c.names.word-items (overlaid_first W m words (omega arith) c.individuals-m.ensures) all)

-- before the rows of a role, which are within the words
pub individuals-init : goal.individuals-init
individuals-init g c =
    let m = c.individuals-m.result in
    let at = 65 + c.roles.r * m in
    let room = rows_within c.roles.r m c.args.roles c.roles-test.true in
    let whole = length_overlaid (g.W.World.interpretation c.args.world.now) at c.args.words.now (omega (arith, room)) in
    record {
      long = omega (arith, room, whole, ap length c.roles.invariant, length-drop at c.roles.words, length-take (at + m - at) (drop at c.roles.words));
      known = λ k l. absurd (omega arith);
    }

-- the next row
pub individuals-preserved : goal.individuals-preserved
individuals-preserved g c =
    let W = g.W.World.interpretation c.args.world.now in
    let m = c.individuals-m.result in
    let r = c.roles.r in
    let x = c.individuals.x in
    let few : x < m = omega (arith, c.individuals-test.true, c.individuals.auto.row-items, c.individuals.invariant.long) in
    let known : x < W.size = omega (arith, c.individuals-m.ensures) in
    written_more W (65 + r * m) m x _ c.individuals.row-items few c.individuals.invariant
    (c.successors.ensures ∙ set_tested W.size x W.size (W.joins r x) known
    ∙ sym (ap (λ n. word_at W (65 + r * n + x)) c.individuals-m.ensures ∙ word_row W r x known))

-- after the rows of a role
pub roles-preserved : goal.roles-preserved
roles-preserved g c =
    let W = g.W.World.interpretation c.args.world.now in
    let m = c.individuals-m.result in
    let r = c.roles.r in
    let at = 65 + r * m in
    let i = c.individuals.invariant in
    let all : Written W at m m c.individuals.row-items =
    record { long = i.long; known = λ k l. i.known k (omega (arith, c.individuals-test.false, c.individuals.auto.row-items, i.long)) } in
    let size : at + m - at ≡ m = omega arith in
    overlaid_at W (at + m) (65 + (r + 1) * m) c.args.words.now _ (omega (arith, add-mul r 1 m))
    (ap (λ n. put_mid at n c.roles.words c.individuals.row-items) size ∙ overlaid_part W at m c.args.words.now c.roles.words c.individuals.row-items c.roles.invariant all)

-- all that is needed is written
pub returns : goal.returns
returns g c =
    let W = g.W.World.interpretation c.args.world.now in
    let roles = c.args.roles in
    let m = c.individuals-m.result in
    let words = c.args.words.now in
    let size = c.individuals-m.ensures in
    let enough = suffices roles m (length words) W size c.if-words-needed.false in
    let end : c.roles.r ≡ roles = omega arith in
    let whole : c.roles.words ≡ overlaid W (needed roles W.size) words =
    overlaid_at W (65 + c.roles.r * m) (needed roles W.size) words _ (ap (λ r. needed r m) end ∙ ap (needed roles) size) c.roles.invariant in
    let drawn : c.roles.words ≡ drawn_on roles W words = whole ∙ sym (drawn_is roles W words enough) in
    record {
      value = granted_is roles m (length words) W size c.if-words-needed.false;
      words = drawn;
      right = subst (Drawn roles W) (sym drawn) (drawing_right roles W (g.met.W.World.sized c.args.world.now) words enough);
    }
