-- What a thread finds in the code of a program.
use Rattle.std.proofs.Common.{◌≡◌, ℕ, zero, suc, Bool, true, false, ◌==◌, List, [], ◌∷◌, Some, None, refl, sym, ap, ◌∙◌, subst, arith, eq-eqb}
use Rattle.std.specs.Prelude.{if◌then◌else◌}
use Rattle.std.specs.List.{slice_get}
use Rattle.std.proofs.lemmas.Bool.Decides.{nat_tests}
use Rattle.ev_graph.specs.Places.{StandsIn}
use Rattle.graph_reach.proofs.Members.{stands_from_any, any_from_stands}
use Rattle.x64_syntax.specs.declared.placed.Placed.{Placed}
use Rattle.code_at.specs.Code.{StandsAt}
use Rattle.code_at.proofs.CallerLemmas.{one_instruction}
use Rattle.cfg_walk.specs.Reach.{IsPlaced}
use Rattle.cfg_walk.specs.Machine.{placed_at, ThreadsFindCode}

some_same : {A : Type 0} {x y : A} → Some x ≡ Some y → x ≡ y
some_same e = cc

no_some : {A : Type 0} {x : A} → None ≡ Some x → ⊥
no_some e = absurd cc

-- what is found is listed, at that address
found_listed : (placed : List Placed) (address : ℕ) (p : Placed) → placed_at placed address ≡ Some p → StandsIn placed p × (p.address ≡ address)
found_listed [] address p found = absurd (no_some found)
found_listed (q ∷ ps) address p found = by_test (address == q.address) refl found (found_listed ps address p)
  where
    by_test : (b : Bool) → (address == q.address) ≡ b → (if b then Some q else placed_at ps address) ≡ Some p
        → (placed_at ps address ≡ Some p → StandsIn ps p × (p.address ≡ address)) → StandsIn (q ∷ ps) p × (p.address ≡ address)
    by_test true e here rest =
        let same : q ≡ p = some_same here in
        let at : address ≡ q.address = grind (arith, nat_tests) in
        ((0, here), ap (λ (o : Placed). o.address) (sym same) ∙ sym at)
    by_test false e later rest = let there = rest later in ((suc there.0.0, there.0.1), there.1)

-- something is found at the address of what is listed
listed_found : (placed : List Placed) (p : Placed) (i : ℕ) → slice_get placed i ≡ Some p → (q : Placed) × (placed_at placed p.address ≡ Some q)
listed_found [] p i at = absurd (no_some at)
listed_found (q ∷ ps) p i at = by_test (p.address == q.address) refl i at (listed_found ps p)
  where
    by_test : (b : Bool) → (p.address == q.address) ≡ b → (i : ℕ) → slice_get (q ∷ ps) i ≡ Some p
        → ((j : ℕ) → slice_get ps j ≡ Some p → (r : Placed) × (placed_at ps p.address ≡ Some r)) → (r : Placed) × ((if b then Some q else placed_at ps p.address) ≡ Some r)
    by_test true e i at rest = (q, refl)
    by_test false e zero at rest =
        let same : q ≡ p = some_same at in
        absurd (differ (sym (eq-eqb p.address q.address (ap (λ (o : Placed). o.address) (sym same))) ∙ e))
      where
        differ : true ≡ false → ⊥
        differ e = absurd cc
    by_test false e (suc j) at rest = rest j at

pub threads_find : ThreadsFindCode
threads_find program code is = record {
  placed = λ address p. (to address p, back address p);
  sites = λ address. (
    (λ has. (is.sites.exact address).0 (stands_from_any code.sites address has)),
    (λ site. any_from_stands code.sites address ((is.sites.exact address).1 site)),
  );
}
  where
    to : (address : ℕ) (p : Placed) → placed_at code.placed address ≡ Some p → IsPlaced program p × (p.address ≡ address)
    to address p found = let there = found_listed code.placed address p found in ((is.placed.exact p).0 there.0, there.1)

    back : (address : ℕ) (p : Placed) → IsPlaced program p × (p.address ≡ address) → placed_at code.placed address ≡ Some p
    back address p placed =
        let at = (is.placed.exact p).1 placed.0 in
        let found = listed_found code.placed p at.0 at.1 in
        let there = to p.address found.0 found.1 in
        let stands = subst (λ (a : ℕ). StandsAt program a found.0) there.1 there.0.stands in
        let same : found.0 ≡ p = one_instruction program p.address found.0 p stands placed.0.stands in
        subst (λ (a : ℕ). placed_at code.placed a ≡ Some p) placed.1 (found.1 ∙ ap (λ (o : Placed). Some o) same)
