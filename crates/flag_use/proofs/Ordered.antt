-- The code of a program is in the order of its addresses, and low.
use Rattle.std.proofs.Common.{◌≡◌, ◌<◌, ◌≤◌, ℕ, zero, suc, Bool, true, false, List, [], ◌∷◌, get_or, All, inl, inr, arith}
use Rattle.std.specs.Prelude.{if◌then◌else◌}
use Rattle.std.specs.List.{AllByRecursion}
use Rattle.std.proofs.lemmas.Option.{slice_get-get_or}
use Rattle.ev_graph.specs.Places.{StandsIn}
use Rattle.ev_graph.proofs.Members.{stands_cases}
use Rattle.x64_syntax.specs.declared.instr.Instr.{Instr}
use Rattle.x64_syntax.specs.declared.instr.Instr.TheVariants as instr
use Rattle.x64_syntax.specs.declared.placed.Flow.{Flow}
use Rattle.x64_syntax.specs.declared.placed.Flow.TheVariants as flow
use Rattle.x64_syntax.specs.declared.placed.Placed.{Placed}
use Rattle.elf_read.specs.Elf.{IsSegment}
use Rattle.code_at.specs.Code.{Program}
use Rattle.code_at.proofs.CallerLemmas.{ends_low}
use Rattle.cfg_walk.specs.declared.code.Code.{Code}
use Rattle.cfg_walk.specs.Reach.{IsReached, IsPlaced, after, end_of}
use Rattle.cfg_walk.specs.Reach.IsReached.{at-entry, at-next}
use Rattle.cfg_walk.specs.Blocks.{IsSite}
use Rattle.cfg_walk.specs.Code.{IsCodeOf}
use Rattle.cfg_walk.proofs.CallerLemmas.{whole, begun_reached, sites_begin}
use Rattle.flag_use.specs.Onward.{hub}
use Rattle.flag_use.specs.Paths.{follows, returns}
use Rattle.flag_use.specs.Walk.{IsOrdered, onward}

-- what holds of each that stands in a list holds of all
all_standing : {A : Type 0} (P : A → Type 0) (xs : List A) → ((x : A) → StandsIn xs x → P x) → All P xs
all_standing P xs each k d within = each (get_or xs k d) (k, slice_get-get_or xs k d within)

one_stands : (x a : ℕ) → StandsIn (x ∷ []) a → a ≡ x
one_stands x a (zero, here) = cc
one_stands x a (suc i, here) = absurd (cc)

-- where a path goes on without a return is a successor
pub followed : (i : Instr) (f : Flow) (end b : ℕ) → StandsIn (follows i f end) b → StandsIn (after i f end) b
followed (instr.Call displacement) flow.Plain end b (zero, here) = (zero, here)
followed (instr.Call displacement) flow.Plain end b (suc i, here) = absurd (cc)
followed i f end b at = at

-- the hub is behind returns alone
pub hub_behind : (b : Bool) (a : ℕ) → StandsIn (if b then hub ∷ [] else []) a → (b ≡ true) × (a ≡ hub)
hub_behind true a at = (cc, one_stands hub a at)
hub_behind false a at = absurd (let none = at.1 in cc)

module _ (program : Program) (code : Code) (segments : AllByRecursion IsSegment program.parts) (is : IsCodeOf program code) where
  pub placed_low : (p : Placed) → IsPlaced program p → end_of p < hub
  placed_low p placed = let low = ends_low program p.address p segments placed.stands in omega (arith, low)

  pub reached_low : (a : ℕ) → IsReached program a → a < hub
  reached_low a reached =
      let there = whole program code is a reached in
      let low = placed_low there.0 there.1 in
      omega (arith, low, there.2)

  pub site_low : (a : ℕ) → IsSite program a → a < hub
  site_low a site = reached_low a (begun_reached program code is a (sites_begin program code is a site))

  pub followed_low : (p : Placed) → IsPlaced program p → (b : ℕ) → StandsIn (follows p.instr p.flow (end_of p)) b → b < hub
  followed_low p placed b at = reached_low b (at-next p placed.reached placed.stands (followed p.instr p.flow (end_of p) b at))

  pub onward_low : (p : Placed) → IsPlaced program p → (b : ℕ) → StandsIn (onward p) b → b ≤ hub
  onward_low p placed b at =
      elim (stands_cases (follows p.instr p.flow (end_of p)) (if returns p.instr p.flow then hub ∷ [] else []) b at) [
        | inl follow ↦ (let low = followed_low p placed b follow in omega (arith, low))
        | inr behind ↦ (let same = (hub_behind (returns p.instr p.flow) b behind).1 in omega (arith, same))
      ]

  pub entries_low : All (λ (a : ℕ). a < hub) program.entries
  entries_low = all_standing (λ (a : ℕ). a < hub) program.entries (λ a at. reached_low a (at-entry at))

  pub code_ordered : IsOrdered code.placed code.sites
  code_ordered = record {
    sorted = is.placed.sorted;
    low = λ p at. let placed = (is.placed.exact p).0 at in
        record { end = placed_low p placed; leads = all_standing (λ (a : ℕ). a ≤ hub) (onward p) (onward_low p placed) };
    low_sites = all_standing (λ (a : ℕ). a < hub) code.sites (λ a at. site_low a ((is.sites.exact a).0 at));
  }
