-- Each code has its plan.
use Rattle.std.proofs.Common.{◌≡◌, inl, inr, ◌==◌, ℕ, zero, suc, Bool, true, false, List, [], ◌∷◌, map, slice_get, Option, Some, None, refl, sym, ap, ◌∙◌, arith}
use Rattle.std.specs.Prelude.{if◌then◌else◌}
use Rattle.std.specs.Option.{option_map}
use Rattle.std.proofs.lemmas.Bool.{cases_order}
use Rattle.std.proofs.lemmas.Bool.Decides.{nat_tests}
use Rattle.std.proofs.lemmas.Option.{slice_get-map}
use Rattle.ev_graph.specs.Places.{StandsIn}
use Rattle.x64_syntax.specs.declared.slots.Slot.{Slot}
use Rattle.code_at.specs.Code.{Program}
use Rattle.cfg_walk.specs.declared.code.Block.{Block}
use Rattle.cfg_walk.specs.declared.code.Code.{Code}
use Rattle.cfg_walk.specs.Code.{IsCodeOf, IsIncreasing}
use Rattle.cfg_walk.specs.Running.{block_at, instructions_of}
use Rattle.cfg_walk.proofs.ByBlocks.{block_found}
use Rattle.cfg_walk.proofs.CallerLemmas.{block_listed, one_of_block}
use Rattle.fence_plan.specs.declared.gap.Gap.{Gap}
use Rattle.carry_spec.specs.Plan.{IsPlan, block_gaps}

-- the gaps of the block that begins at an address, if one does
abbrev pub plan_for : (private : Slot → Bool) → Code → ℕ → Option (List Gap)
plan_for private code a = option_map (λ b. block_gaps private (instructions_of code b)) (block_at code.blocks a)

some_same : {A : Type 0} {x y : A} → Some x ≡ Some y → x ≡ y
some_same e = cc

-- blocks that begin at one address are one
one_begins : (blocks : List Block) → IsIncreasing (map (λ (b : Block). b.first) blocks) → (b c : Block) → StandsIn blocks b → StandsIn blocks c → b.first ≡ c.first → b ≡ c
one_begins blocks sorted b c (i, at) (j, other) same = elim (cases_order i j) [
  | inl is ↦ some_same (sym at ∙ ap (slice_get blocks) is ∙ other)
  | inr apart ↦ elim apart [
    | inl below ↦ absurd (omega (arith, same, sorted i j b.first c.first below (first_at b i at) (first_at c j other)))
    | inr above ↦ absurd (omega (arith, same, sorted j i c.first b.first above (first_at c j other) (first_at b i at)))
  ]
]
  where
    first_at : (b : Block) (i : ℕ) → slice_get blocks i ≡ Some b → slice_get (map (λ (b : Block). b.first) blocks) i ≡ Some b.first
    first_at b i at = slice_get-map (λ (b : Block). b.first) blocks i ∙ ap (option_map (λ (b : Block). b.first)) at

-- a block that is found begins there
found_begins : (blocks : List Block) (a : ℕ) (b : Block) → block_at blocks a ≡ Some b → StandsIn blocks b × (b.first ≡ a)
found_begins [] a b found = absurd cc
found_begins (c ∷ cs) a b found = by_test (a == c.first) refl found (λ later. found_begins cs a b later)
  where
    by_test : (t : Bool) → (a == c.first) ≡ t → (if t then Some c else block_at cs a) ≡ Some b → (block_at cs a ≡ Some b → StandsIn cs b × (b.first ≡ a)) → StandsIn (c ∷ cs) b × (b.first ≡ a)
    by_test true e found rest =
        let level : a ≡ c.first = grind (arith, nat_tests) in
        ((zero, found), sym (level ∙ ap (λ (x : Block). x.first) (some_same found)))
    by_test false e found rest = let there = rest found in ((suc there.0.0, there.0.1), there.1)

-- these are just the gaps that a plan says
pub is_plan_for : (program : Program) (code : Code) → IsCodeOf program code → (private : Slot → Bool) → IsPlan private code (plan_for private code)
is_plan_for program code is private = record {
  block = λ b ps at are.
      let there = block_found code.blocks b.first b at.0 at.1 refl in
      let same : there.0 ≡ b = one_begins code.blocks is.blocks.sorted there.0 b there.2 at there.3 in
      let listed = (block_listed program code is b at).are in
      ap (option_map (λ b. block_gaps private (instructions_of code b))) (there.1 ∙ ap Some same)
      ∙ ap (λ ps. Some (block_gaps private ps)) (one_of_block program code is b (instructions_of code b) ps listed are);
  none = λ a none. ap (option_map (λ b. block_gaps private (instructions_of code b))) (by a none (block_at code.blocks a) refl);
}
  where
    by : (a : ℕ) → ((b : Block) → StandsIn code.blocks b → b.first ≡ a → ⊥) → (o : Option Block) → block_at code.blocks a ≡ o → block_at code.blocks a ≡ None
    by a none None found = found
    by a none (Some b) found = let there = found_begins code.blocks a b found in absurd (none b there.0 there.1)
