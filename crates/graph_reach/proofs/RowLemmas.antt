-- One row more leaves the others as they are.
use Rattle.std.proofs.Common.{◌≡◌, ◌-◌, ℕ, zero, suc, List, [], ◌∷◌, ◌++◌, length, inl, inr, Result, Ok, Err, OnErr, refl, ap, ◌∙◌, subst, take, drop, arith, length-append, length-drop}
use Rattle.std.proofs.lemmas.List.{drop-append-le, take-append-le, map-append}
use Rattle.std.proofs.Math.Seq.{drop-append_seam, take-length}
use Rattle.ev_graph.proofs.PlaceLemmas.{push_cases}
use Rattle.graph_reach.specs.declared.rows.Span.{Span}
use Rattle.graph_reach.specs.Spans.{part_of, rows_in, IsSpan, AreSpans}

part_kept : (targets more : List ℕ) (span : Span) → IsSpan targets span → part_of (targets ++ more) span ≡ part_of targets span
part_kept targets more span is =
    let ordered = is.ordered in
    let within = is.within in
    let dropped = drop-append-le span.start targets more (omega arith) in
    let long = length-drop span.start targets in
    ap (take (span.end - span.start)) dropped ∙ take-append-le (span.end - span.start) (drop span.start targets) more (omega arith)

pub rows_kept : (targets more : List ℕ) (spans : List Span) → AreSpans targets spans → rows_in (targets ++ more) spans ≡ rows_in targets spans
rows_kept targets more [] are = refl
rows_kept targets more (span ∷ spans) are =
    let first = part_kept targets more span (are zero span refl) in
    let rest = rows_kept targets more spans (λ i other here. are (suc i) other here) in
    cc

-- the spans after one more row
pub spans_pushed : (targets row : List ℕ) (spans : List Span) (span : Span) → AreSpans targets spans → span.start ≡ length targets → span.end ≡ length (targets ++ row) → AreSpans (targets ++ row) (spans ++ span ∷ [])
spans_pushed targets row spans span are starts ends i other here =
    let longer = length-append targets row in
    elim (push_cases spans span i other here) [
      | inl before ↦ let is = are i other before in record { ordered = is.ordered; within = let within = is.within in omega arith }
      | inr last ↦ subst (IsSpan (targets ++ row)) last.1 (record { ordered = omega arith; within = omega arith })
    ]

-- the rows after one more
pub rows_pushed : (targets row : List ℕ) (spans : List Span) (span : Span) → AreSpans targets spans → span.start ≡ length targets → span.end ≡ length (targets ++ row)
    → rows_in (targets ++ row) (spans ++ span ∷ []) ≡ rows_in targets spans ++ row ∷ []
rows_pushed targets row spans span are starts ends =
    let joined = map-append (part_of (targets ++ row)) spans (span ∷ []) in
    let kept = rows_kept targets row spans are in
    let longer = length-append targets row in
    let size : span.end - span.start ≡ length row = omega arith in
    let dropped : drop span.start (targets ++ row) ≡ row = ap (λ (i : ℕ). drop i (targets ++ row)) starts ∙ drop-append_seam targets row in
    let part : part_of (targets ++ row) span ≡ row = ap (λ (xs : List ℕ). take (span.end - span.start) xs) dropped ∙ ap (λ (i : ℕ). take i row) size ∙ take-length row in
    joined ∙ ap (λ (rows : List (List ℕ)). rows ++ part_of (targets ++ row) span ∷ []) kept ∙ ap (λ (one : List ℕ). rows_in targets spans ++ one ∷ []) part

-- what holds anyway holds on an error
pub on_err : {T E : Type 0} (r : Result T E) (P : Type 0) → P → OnErr r P
on_err (Ok x) P so = tt
on_err (Err e) P so = so
