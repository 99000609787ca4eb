-- Each move of the walk keeps what holds.
use Rattle.std.proofs.Common.{◌≡◌, ◌≢◌, ◌<◌, ℕ, zero, suc, List, [], ◌∷◌, ◌++◌, length, ◌⊎◌, inl, inr, Some, refl, sym, ap, subst, ◌∙◌, arith}
use Rattle.std.proofs.Math.ListN.{set, length-set}
use Rattle.std.specs.List.{slice_get}
use Rattle.std.proofs.lemmas.Option.{slice_get_within}
use Rattle.ev_graph.specs.Places.{StandsIn, IsDistinct}
use Rattle.ev_graph.proofs.PlaceLemmas.{get-append, get-push, push_cases}
use Rattle.topo.specs.declared.edge.Edge.{Edge}
use Rattle.topo.specs.declared.walk.Mark.{Mark}
use Rattle.topo.specs.declared.walk.Mark.TheVariants.{New, Open, Done}
use Rattle.topo.specs.Order.{Leads}
use Rattle.topo.specs.Links.{AreLinked}
use Rattle.topo.specs.Walk.{IsWalk, LeadsToTop}
use Rattle.topo.proofs.Places.{get-set_same, get-set_other, set_cases}

-- a write at v leaves the marks that are another than that of v
pub stays : (marks : List Mark) (v u : ℕ) (at_v at_u new : Mark) → slice_get marks v ≡ Some at_v → slice_get marks u ≡ Some at_u → at_v ≢ at_u → slice_get (set marks v new) u ≡ Some at_u
stays marks v u at_v at_u new here there differ =
    let other : u ≢ v = λ e. differ (let moved : slice_get marks u ≡ slice_get marks v = ap (slice_get marks) e in cc) in
    let kept = get-set_other marks v u new other in
    cc

-- a mark that is another than the one written was there before, at another number
pub was : (marks : List Mark) (v u : ℕ) (new at_u : Mark) → slice_get (set marks v new) u ≡ Some at_u → new ≢ at_u → (u ≢ v) × (slice_get marks u ≡ Some at_u)
was marks v u new at_u here differ = elim (set_cases marks v u new at_u here) [
  | inl written ↦ absurd (differ written.1)
  | inr before ↦ before
]

distinct-push : (xs : List ℕ) (y : ℕ) → IsDistinct xs → (StandsIn xs y → ⊥) → IsDistinct (xs ++ y ∷ [])
distinct-push xs y once absent i j x first second = elim (push_cases xs y i x first) [
  | inl before ↦ elim (push_cases xs y j x second) [
    | inl earlier ↦ once i j x before earlier
    | inr last ↦ absurd (absent (i, (let same = last.1 in cc)))
  ]
  | inr last ↦ elim (push_cases xs y j x second) [
    | inl earlier ↦ absurd (absent (j, (let same = last.1 in cc)))
    | inr too ↦ last.0 ∙ sym too.0
  ]
]

-- the walk comes to a new number
pub opened : (n : ℕ) (edges : List Edge) (cursors : List ℕ) (marks : List Mark) (stack done : List ℕ) (v : ℕ) → IsWalk n edges cursors marks stack done
    → slice_get marks v ≡ Some New → LeadsToTop edges v stack → IsWalk n edges cursors (set marks v Open) (stack ++ v ∷ []) done
opened n edges cursors marks stack done v w new leads = record {
  cursor_each = w.cursor_each;
  mark_each = length-set marks v Open ∙ w.mark_each;
  cursor = w.cursor;
  passed = λ u link j e here le there to. stays marks v e.from New Done Open new (w.passed u link j e here le there to) (λ e'. cc);
  done_marked = λ i u here. stays marks v u New Done Open new (w.done_marked i u here) (λ e'. cc);
  done_listed = λ u here. w.done_listed u (was marks v u Open Done here (λ e'. cc)).1;
  open_marked = λ i u here. elim (push_cases stack v i u here) [
    | inl before ↦ stays marks v u New Open Open new (w.open_marked i u before) (λ e'. cc)
    | inr last ↦ let same = last.1 in let moved : slice_get (set marks v Open) v ≡ slice_get (set marks v Open) u = ap (slice_get (set marks v Open)) same in
        let written = get-set_same marks v Open (slice_get_within marks v New new) in cc
  ];
  open_listed = λ u here. elim (set_cases marks v u Open Open here) [
    | inl written ↦ (length stack, (let same = written.0 in let pushed = get-push stack v in cc))
    | inr before ↦ let listed = w.open_listed u before.1 in (listed.0, get-append stack (v ∷ []) listed.0 u listed.1)
  ];
  done_once = w.done_once;
  open_once = distinct-push stack v w.open_once (λ at. let marked = w.open_marked at.0 v at.1 in cc);
  piled = λ i a b here above. elim (push_cases stack v (suc i) b above) [
    | inl before ↦ elim (push_cases stack v i a here) [
      | inl under ↦ w.piled i a b under before
      | inr last ↦ let within = slice_get_within stack (suc i) b before in absurd (omega arith)
    ]
    | inr last ↦ elim (push_cases stack v i a here) [
      | inl under ↦ let same = last.1 in let led : Leads edges v a = leads a (record { below = i; here = under; last = sym last.0 }) in subst (λ (z : ℕ). Leads edges z a) same led
      | inr end ↦ absurd (omega arith)
    ]
  ];
  forward = w.forward;
}

-- the walk ends with the top of the stack, to which no edge is left
pub closed : (n : ℕ) (edges : List Edge) (cursors : List ℕ) (marks : List Mark) (rest done : List ℕ) (v : ℕ) → IsWalk n edges cursors marks (rest ++ v ∷ []) done
    → slice_get cursors v ≡ Some zero → IsWalk n edges cursors (set marks v Done) rest (done ++ v ∷ [])
closed n edges cursors marks rest done v w none_left =
    let here = w.open_marked (length rest) v (get-push rest v) in
    record {
      cursor_each = w.cursor_each;
      mark_each = length-set marks v Done ∙ w.mark_each;
      cursor = w.cursor;
      passed = λ u link j e at le there to. stays marks v e.from Open Done Done here (w.passed u link j e at le there to) (λ e'. cc);
      done_marked = λ i u at. elim (push_cases done v i u at) [
        | inl before ↦ stays marks v u Open Done Done here (w.done_marked i u before) (λ e'. cc)
        | inr last ↦ let same = last.1 in let moved : slice_get (set marks v Done) v ≡ slice_get (set marks v Done) u = ap (slice_get (set marks v Done)) same in
            let written = get-set_same marks v Done (slice_get_within marks v Open here) in cc
      ];
      done_listed = λ u at. elim (set_cases marks v u Done Done at) [
        | inl written ↦ (length done, (let same = written.0 in let pushed = get-push done v in cc))
        | inr before ↦ let listed = w.done_listed u before.1 in (listed.0, get-append done (v ∷ []) listed.0 u listed.1)
      ];
      open_marked = λ i u at.
          let within = slice_get_within rest i u at in
          let under = get-append rest (v ∷ []) i u at in
          let pushed = get-push rest v in
          let other : u ≢ v = λ e. (let moved : slice_get (rest ++ v ∷ []) i ≡ Some v = cc in let same = w.open_once i (length rest) v moved pushed in omega arith) in
          let kept = get-set_other marks v u Done other in
          let marked = w.open_marked i u under in
          cc;
      open_listed = λ u at.
          let before = was marks v u Done Open at (λ e'. cc) in
          let listed = w.open_listed u before.1 in
          elim (push_cases rest v listed.0 u listed.1) [
            | inl under ↦ (listed.0, under)
            | inr last ↦ absurd (before.0 (sym last.1))
          ];
      done_once = distinct-push done v w.done_once (λ at. let marked = w.done_marked at.0 v at.1 in cc);
      open_once = λ i j x first second. w.open_once i j x (get-append rest (v ∷ []) i x first) (get-append rest (v ∷ []) j x second);
      piled = λ i a b under above. w.piled i a b (get-append rest (v ∷ []) i a under) (get-append rest (v ∷ []) (suc i) b above);
      forward = λ j e there at. elim (push_cases done v at.0 e.to at.1) [
        | inl before ↦ let earlier = w.forward j e there (at.0, before) in record {
          i = earlier.i;
          j = earlier.j;
          order = earlier.order;
          first = get-append done (v ∷ []) earlier.i e.from earlier.first;
          second = get-append done (v ∷ []) earlier.j e.to earlier.second;
        }
        | inr last ↦ let listed = w.done_listed e.from (w.passed v zero j e none_left (omega arith) there (sym last.1)) in record {
          i = listed.0;
          j = length done;
          order = slice_get_within done listed.0 e.from listed.1;
          first = get-append done (v ∷ []) listed.0 e.from listed.1;
          second = let same = last.1 in let pushed = get-push done v in cc;
        }
      ];
    }

-- the walk passes the edge at the cursor of v, which comes from a number that is done
pub passed : (n : ℕ) (edges : List Edge) (before cursors : List ℕ) (marks : List Mark) (stack done : List ℕ) (v j next : ℕ) (e : Edge) → IsWalk n edges cursors marks stack done
    → AreLinked edges before → slice_get cursors v ≡ Some (suc j) → slice_get edges j ≡ Some e → slice_get marks e.from ≡ Some Done → slice_get before j ≡ Some next
    → IsWalk n edges (set cursors v next) marks stack done
passed n edges before cursors marks stack done v j next e w linked here there from_done link =
    let to_v : e.to ≡ v = (w.cursor v (suc j) here).leads j e refl there in
    let last = linked j next e link there in
    let within = slice_get_within edges j e there in
    record {
      cursor_each = length-set cursors v next ∙ w.cursor_each;
      mark_each = w.mark_each;
      cursor = λ u c at. elim (set_cases cursors v u next c at) [
        | inl written ↦ record { within = (let less = last.within in omega arith); leads = λ i e' is other. (let led = last.leads i e' (written.1 ∙ is) other in let same = written.0 in cc) }
        | inr kept ↦ w.cursor u c kept.1
      ];
      passed = λ u c i e' at le other to. elim (set_cases cursors v u next c at) [
        | inl written ↦
            let same = written.0 in
            let to_same : e'.to ≡ e.to = cc in
            let cases : (i < j) ⊎ ((i ≡ j) ⊎ (j < i)) = grind arith in
            elim cases [
              | inl less ↦ let again = last.last i e' less other to_same in let is = written.1 in absurd (omega arith)
              | inr rest ↦ elim rest [
                | inl equal ↦
                    let moved : slice_get edges i ≡ slice_get edges j = ap (slice_get edges) equal in
                    let one : e ≡ e' = cc in
                    subst (λ (x : Edge). slice_get marks x.from ≡ Some Done) one from_done
                | inr more ↦ w.passed v (suc j) i e' here (omega arith) other (to ∙ same)
              ]
            ]
        | inr kept ↦ w.passed u c i e' kept.1 le other to
      ];
      done_marked = w.done_marked;
      done_listed = w.done_listed;
      open_marked = w.open_marked;
      open_listed = w.open_listed;
      done_once = w.done_once;
      open_once = w.open_once;
      piled = w.piled;
      forward = w.forward;
    }
