use Rattle.std.proofs.Common.{◌≡◌, ◌≤◌, [], ℕ, Bool, List, length, subst, sym, ap, arith}
use Rattle.exec_text.specs.Parts.{parts_at}
use Rattle.exec_text.specs.Events.{IsSource, AreSmallSources}
use Rattle.ev_graph.specs.declared.execution.Source.{Source}
use Rattle.exec_text.proofs.KeptLemmas.{Kept, KeptBefore, kept_more, kept_wide, kept_all, says_nothing, zip-length}
use Rattle.exec_text.proofs.EventLemmas.{source_fronts, sources_grow, sources_beyond}
use Rattle.exec_text.proofs.events.sources.Goals as goal

pub returns-then-count-eq-MOST_SOURCES : goal.returns-then-count-eq-MOST_SOURCES
returns-then-count-eq-MOST_SOURCES c = λ all says.
    let parts = parts_at 44 c.args.text.now in
    let size = zip-length IsSource parts all says.0 in
    let left = ap {B = ℕ} (λ (r : List (List ℕ)). length r) c.in-Some.ensures.steps in
    omega (arith, size, left, says.1, c.loop-part.invariant.counted)

pub loop-part-preserved-in-Continue-1 : goal.loop-part-preserved-in-Continue-1
loop-part-preserved-in-Continue-1 c =
    let parts = parts_at 44 c.args.text.now in
    let found = c.loop-part.found.items in
    let left = ap {B = ℕ} (λ (r : List (List ℕ)). length r) c.in-Some.ensures.steps in
    let Here : List Source → Type 0 = λ sources. KeptBefore IsSource AreSmallSources parts c.next.new.self c.loop-part.wide sources in
    record {
      kept = subst Here (sym c.in_ok-push-in-Ok.ensures.items)
          (kept_more IsSource AreSmallSources source_fronts parts c.loop-part.part-iterator c.next.new.self c.in-Some.part.now c.in-Ok.one c.loop-part.wide found
          c.in-Some.ensures.steps c.in-Ok.ensures.0 (sources_grow found c.in-Ok.one c.in-Ok.ensures.1) c.loop-part.invariant.kept);
      counted = omega (arith, left, c.loop-part.invariant.counted);
      few = omega arith;
    }

pub loop-part-preserved : goal.loop-part-preserved
loop-part-preserved c =
    let parts = parts_at 44 c.args.text.now in
    let found = c.loop-part.found.items in
    let beyond = rw c.in-Err-Number.field-0-is at c.in-Err-Number.ensures in
    let left = ap {B = ℕ} (λ (r : List (List ℕ)). length r) c.in-Some.ensures.steps in
    record {
      kept = kept_wide IsSource AreSmallSources source_fronts parts c.loop-part.part-iterator c.next.new.self c.in-Some.part.now beyond.0 c.loop-part.wide found found
          c.in-Some.ensures.steps beyond.1 (sources_beyond found beyond.0 beyond.2) c.loop-part.invariant.kept;
      counted = omega (arith, left, c.loop-part.invariant.counted);
      few = omega arith;
    }

pub returns-in-Err-Shape : goal.returns-in-Err-Shape
returns-in-Err-Shape c = λ all says.
    let none = rw c.in-Err-Shape.field-0-is at c.in-Err-Shape.ensures in
    says_nothing IsSource AreSmallSources (parts_at 44 c.args.text.now) c.loop-part.part-iterator c.next.new.self c.in-Some.part.now c.loop-part.wide c.loop-part.found.items c.in-Some.ensures.steps
    c.loop-part.invariant.kept none all says.0

pub returns-then-wide : goal.returns-then-wide
returns-then-wide c =
    let parts = parts_at 44 c.args.text.now in
    let found = c.loop-part.found.items in
    let none : c.loop-part.part-iterator ≡ [] = c.in-None.ensures.steps.0 in
    let Read : Bool → Type 0 = λ wide. Kept IsSource AreSmallSources parts wide found in
    let kept = subst Read c.if-wide.true (kept_all IsSource AreSmallSources parts c.loop-part.part-iterator c.loop-part.wide found none c.loop-part.invariant.kept) in
    let left = ap {B = ℕ} (λ (r : List (List ℕ)). length r) none in
    (kept.0, (kept.1, omega (arith, left, zip-length IsSource parts kept.0 kept.1, c.loop-part.invariant.counted, c.loop-part.invariant.few)), kept.2)

pub returns : goal.returns
returns c =
    let parts = parts_at 44 c.args.text.now in
    let found = c.loop-part.found.items in
    let none : c.loop-part.part-iterator ≡ [] = c.in-None.ensures.steps.0 in
    let Read : Bool → Type 0 = λ wide. Kept IsSource AreSmallSources parts wide found in
    let kept = subst Read c.if-wide.false (kept_all IsSource AreSmallSources parts c.loop-part.part-iterator c.loop-part.wide found none c.loop-part.invariant.kept) in
    let left = ap {B = ℕ} (λ (r : List (List ℕ)). length r) none in
    let Said : List Source → Type 0 = λ sources. (Rattle.std.specs.List.AllZip IsSource parts sources × (length sources ≤ 8)) × AreSmallSources sources in
    subst Said (sym c.of.ensures) ((kept.0, omega (arith, left, zip-length IsSource parts found kept.0, c.loop-part.invariant.counted, c.loop-part.invariant.few)), kept.1)
