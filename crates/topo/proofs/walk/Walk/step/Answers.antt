use Rattle.std.proofs.Common.{◌≡◌, ◌-◌, suc, length, arith, ap, refl}
use Rattle.topo.specs.declared.walk.Mark.TheVariants.{Done}
use Rattle.topo.proofs.Steps.{top_below, leads_to_top, read_as}
use Rattle.topo.proofs.walk.Walk.step.Goals as goal

pub at-cursor-requires : goal.at-cursor-requires
at-cursor-requires c =
    let s = c.args.self.now in
    let below = top_below _ c.args.edges.now s.cursors.items s.marks.items s.stack.items s.done.items c.args.top c.requires.holds c.requires.top in
    let long = c.requires.holds.cursor_each in
    let same = ap length c.as_slice.ensures.value in
    omega arith

pub returns-then-cursor-eq0 : goal.returns-then-cursor-eq0
returns-then-cursor-eq0 c =
    let s = c.args.self.now in
    let at_zero = read_as s.cursors.items c.as_slice.result.now c.args.top c.at-cursor.result 0 c.as_slice.ensures.value c.at-cursor.ensures c.if-cursor-eq0.true in
    c.in_ok-close.ensures (length s.marks.items) c.args.edges.now c.requires.holds at_zero

pub returns-in_ok-open-in-New : goal.returns-in_ok-open-in-New
returns-in_ok-open-in-New c =
    let s = c.args.self.now in
    let cursor = read_as s.cursors.items c.as_slice.result.now c.args.top c.at-cursor.result c.at-cursor.result c.as_slice.ensures.value c.at-cursor.ensures refl in
    let leads = leads_to_top (length s.marks.items) c.args.edges.now s.cursors.items s.marks.items s.stack.items s.done.items c.args.top c.at-cursor.result c.at-from.result c.requires.holds c.requires.top
    c.if-cursor-eq0.false cursor c.at-from.ensures in
    c.in_ok-open-in-New.ensures.goes (length s.marks.items) c.args.edges.now c.requires.holds leads

pub returns-in-Done : goal.returns-in-Done
returns-in-Done c =
    let s = c.args.self.now in
    let next : c.at-cursor.result ≡ suc (c.at-cursor.result - 1) = omega arith in
    c.pass.ensures (length s.marks.items) c.args.edges.now c.args.before.now c.requires.holds c.requires.walkable (record {
      place = c.at-cursor.result - 1;
      edge = c.at-from.result;
      cursor = read_as s.cursors.items c.as_slice.result.now c.args.top c.at-cursor.result _ c.as_slice.ensures.value c.at-cursor.ensures next;
      here = c.at-from.ensures;
      done = read_as s.marks.items c.as_slice-2.result.now c.at-from.result.from c.at.result Done c.as_slice-2.ensures.value c.at.ensures c.in-Done.is;
      link = c.at-in-Done.ensures;
    })
