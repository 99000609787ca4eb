-- Linking one more edge, and the walk that has come to no number.
use Rattle.std.proofs.Common.{◌≡◌, ◌<◌, ◌+◌, ℕ, List, [], ◌∷◌, ◌++◌, length, ◌⊎◌, inl, inr, Some, refl, sym, ap, subst, ◌∙◌, arith, replicate, All, length-append}
use Rattle.std.proofs.Math.ListN.{set, length-set, length-replicate}
use Rattle.std.specs.List.{slice_get}
use Rattle.std.proofs.lemmas.List.{get_or-replicate}
use Rattle.std.proofs.lemmas.Option.{slice_get_within, get_or_from_slice_get}
use Rattle.ev_graph.proofs.PlaceLemmas.{push_cases}
use Rattle.topo.specs.declared.edge.Edge.{Edge}
use Rattle.topo.specs.declared.walk.Mark.{Mark}
use Rattle.topo.specs.declared.walk.Mark.TheVariants.{New, Open, Done}
use Rattle.topo.specs.Links.{IsLast, AreLinks}
use Rattle.topo.specs.declared.walk.Walk.{Walk}
use Rattle.topo.specs.Walk.{AreWalkable, IsWalk, Holds, IsFresh}
use Rattle.topo.proofs.Places.{set_cases}

-- an element of a list of copies
pub replicated : {A : Type 0} (n : ℕ) (x : A) (i : ℕ) (y : A) → slice_get (replicate n x) i ≡ Some y → y ≡ x
replicated {A} n x i y here =
    let within = slice_get_within (replicate n x) i y here in
    let long : length (replicate n x) ≡ n = length-replicate n x in
    let read = get_or_from_slice_get (replicate n x) i y x here in
    let copy = get_or-replicate n i x x (omega arith) in
    cc

-- no edge is linked yet
pub link_none : (n : ℕ) (edges : List Edge) → AreLinks n edges 0 (replicate n 0) []
link_none n edges = record {
  one_a_number = length-replicate n 0;
  one_an_edge = refl;
  lasts = λ v link here. let is = replicated n 0 v link here in record { within = omega arith; leads = λ j e some at. absurd (omega arith); last = λ j e less at to. absurd (omega arith) };
  linked = λ j link e here at. absurd (cc);
}

-- one edge more is linked
pub link_more : (n : ℕ) (edges : List Edge) (k : ℕ) (last before : List ℕ) (e : Edge) (link : ℕ) → AreLinks n edges k last before → slice_get edges k ≡ Some e
    → slice_get last e.to ≡ Some link → AreLinks n edges (k + 1) (set last e.to (k + 1)) (before ++ link ∷ [])
link_more n edges k last before e link so_far here there = record {
  one_a_number = length-set last e.to (k + 1) ∙ so_far.one_a_number;
  one_an_edge = let long = so_far.one_an_edge in let sum = length-append before (link ∷ []) in omega arith;
  lasts = λ v c at. elim (set_cases last e.to v (k + 1) c at) [
    | inl written ↦ let is = written.1 in let same = written.0 in record {
      within = omega arith;
      leads = λ j e' next found. (let place : j ≡ k = omega arith in let moved : slice_get edges j ≡ slice_get edges k = ap (slice_get edges) place in let one : e ≡ e' = cc in ap (λ (x : Edge). x.to) (sym one) ∙ sym same);
      last = λ j e' less found to. omega arith;
    }
    | inr kept ↦ let old = so_far.lasts v c kept.1 in record {
      within = let le = old.within in omega arith;
      leads = old.leads;
      last = λ j e' less found to.
          let cases : (j < k) ⊎ (j ≡ k) = grind arith in
          elim cases [
            | inl earlier ↦ old.last j e' earlier found to
            | inr place ↦ let moved : slice_get edges j ≡ slice_get edges k = ap (slice_get edges) place in let one : e ≡ e' = cc in
                absurd (kept.0 (sym to ∙ ap (λ (x : Edge). x.to) (sym one)))
          ];
    }
  ];
  linked = λ j c e' at found. elim (push_cases before link j c at) [
    | inl earlier ↦ so_far.linked j c e' earlier found
    | inr new ↦
        let place : j ≡ k = new.0 ∙ so_far.one_an_edge in
        let moved : slice_get edges j ≡ slice_get edges k = ap (slice_get edges) place in
        let one : e ≡ e' = cc in
        let old : IsLast edges e.to k link = so_far.lasts e.to link there in
        let old_too : IsLast edges e'.to k link = subst (λ (x : Edge). IsLast edges x.to k link) one old in
        let old_there : IsLast edges e'.to j link = subst (λ (i : ℕ). IsLast edges e'.to i link) (sym place) old_too in
        subst (λ (x : ℕ). IsLast edges e'.to j x) new.1 old_there
  ];
}

-- the walk begins
pub begins : (n : ℕ) (edges : List Edge) (last before : List ℕ) → AreLinks n edges (length edges) last before → IsWalk n edges last (replicate n New) [] []
begins n edges last before links = record {
  cursor_each = links.one_a_number;
  mark_each = length-replicate n New;
  cursor = λ v link here. let is = links.lasts v link here in record { within = is.within; leads = is.leads };
  passed = λ v link j e here le there to. let is = links.lasts v link here in let less = is.last j e (slice_get_within edges j e there) there to in absurd (omega arith);
  done_marked = λ i v here. absurd (cc);
  done_listed = λ v here. let is = replicated n New v Done here in absurd (cc);
  open_marked = λ i v here. absurd (cc);
  open_listed = λ v here. let is = replicated n New v Open here in absurd (cc);
  done_once = λ i j x first second. absurd (cc);
  open_once = λ i j x first second. absurd (cc);
  piled = λ i a b here above. absurd (cc);
  forward = λ j e there at. let nothing = at.1 in absurd (cc);
}

-- what stays during the walk
pub walkable : (n : ℕ) (edges : List Edge) (last before : List ℕ) → All (λ e. (e.from < n) × (e.to < n)) edges → AreLinks n edges (length edges) last before → AreWalkable n edges before
walkable n edges last before ends links = record {
  ends = λ j e here. let read = get_or_from_slice_get edges j e e here in subst (λ (x : Edge). (x.from < n) × (x.to < n)) read (ends j e (slice_get_within edges j e here));
  one_an_edge = links.one_an_edge;
  linked = links.linked;
}

-- the same of a walk as it is made
pub begins_as : (n : ℕ) (edges : List Edge) (last before : List ℕ) (w : Walk) → AreLinks n edges (length edges) last before → IsFresh n last w → Holds n edges w
begins_as n edges last before w links fresh =
    let zero_walk = begins n edges last before links in
    let cursors = subst (λ (xs : List ℕ). IsWalk n edges xs (replicate n New) [] []) (sym fresh.cursors) zero_walk in
    let marks = subst (λ (xs : List Mark). IsWalk n edges w.cursors.items xs [] []) (sym fresh.marks) cursors in
    let stack = subst (λ (xs : List ℕ). IsWalk n edges w.cursors.items w.marks.items xs []) (sym fresh.stack) marks in
    subst (λ (xs : List ℕ). IsWalk n edges w.cursors.items w.marks.items w.stack.items xs) (sym fresh.done) stack
