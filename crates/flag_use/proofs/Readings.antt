-- The least instruction that reads an undefined flag.
use Rattle.std.proofs.Common.{◌≡◌, ◌<◌, ◌≤◌, ◌+◌, ◌^◌, ◌↔◌, ℕ, true, List, length, map, get_or, All, ◌⊎◌, inl, inr, Some, None, refl, sym, ap, ◌∙◌, subst, arith}
use Rattle.std.specs.List.{slice_get, AllByRecursion}
use Rattle.std.specs.Option.{option_map}
use Rattle.std.proofs.lemmas.Bool.{cases_lt}
use Rattle.std.proofs.lemmas.Option.{slice_get_within, slice_get-get_or, slice_get-map}
use Rattle.x64_syntax.specs.declared.placed.Placed.{Placed}
use Rattle.elf_read.specs.declared.fault.FileFault.{FileFault}
use Rattle.elf_read.specs.declared.fault.FileFault.TheVariants.{UndefinedFlag}
use Rattle.elf_read.specs.FirstFault.{Before, Clear, IsFirst, rank}
use Rattle.elf_read.specs.Elf.{IsSegment}
use Rattle.code_at.specs.Code.{Program}
use Rattle.graph_reach.specs.Reach.{IsReachedSet}
use Rattle.cfg_walk.specs.declared.code.Code.{Code}
use Rattle.cfg_walk.specs.Code.{IsCodeOf, IsIncreasing}
use Rattle.cfg_walk.specs.Least.{IsLeast}
use Rattle.flag_use.specs.declared.track.Track.TheVariants.{Any}
use Rattle.flag_use.specs.Faults.{Holds, ReadsUndefined}
use Rattle.flag_use.specs.Paths.{PathTo}
use Rattle.flag_use.specs.Walk.{next, nodes_of, IsOrdered, ReadsSomeFound, StandsReading}
use Rattle.flag_use.proofs.Lookups.{address_of}
use Rattle.flag_use.proofs.Meaning.{comes_undefined}
use Rattle.flag_use.proofs.Ordered.{placed_low}

-- none of the instructions before a place reads such a flag
abbrev pub NoneBefore : (nodes : List ℕ) → List Placed → ℕ → Type 0
NoneBefore nodes placed n = (i : ℕ) (p : Placed) → i < n → slice_get placed i ≡ Some p → ReadsSomeFound nodes p → ⊥

pub none_more : (nodes : List ℕ) (placed : List Placed) (n : ℕ) (p : Placed) → slice_get placed n ≡ Some p → (ReadsSomeFound nodes p → ⊥)
    → NoneBefore nodes placed n → NoneBefore nodes placed (n + 1)
none_more nodes placed n p at none before i q below here reading = by_order (cases_lt i n)
  where
    by_order : (i < n) ⊎ (n ≤ i) → ⊥
    by_order (inl less) = before i q less here reading
    by_order (inr past) =
        let e : i ≡ n = omega (arith, past, below) in
        let there : slice_get placed n ≡ Some q = subst (λ (k : ℕ). slice_get placed k ≡ Some q) e here in
        let same : q ≡ p = cc in
        none (subst (ReadsSomeFound nodes) same reading)

-- the first that reads one has the least address
pub first_least : (nodes : List ℕ) (placed : List Placed) → IsIncreasing (map address_of placed)
    → (n : ℕ) (p : Placed) → slice_get placed n ≡ Some p → ReadsSomeFound nodes p → NoneBefore nodes placed n → IsLeast (StandsReading nodes placed) (Some p.address)
first_least nodes placed sorted n p at reading before = (record { p = p; listed = (n, at); here = refl; reading = reading }, lower)
  where
    there : (i : ℕ) (q : Placed) → slice_get placed i ≡ Some q → slice_get (map address_of placed) i ≡ Some q.address
    there i q here = slice_get-map address_of placed i ∙ ap (option_map address_of) here

    lower : (b : ℕ) → b < p.address → StandsReading nodes placed b → ⊥
    lower b less is = by_order (cases_lt is.listed.0 n)
      where
        by_order : (is.listed.0 < n) ⊎ (n ≤ is.listed.0) → ⊥
        by_order (inl earlier) = before is.listed.0 is.p earlier is.listed.1 is.reading
        by_order (inr later) = elim (cases_lt n is.listed.0) [
          | inl behind ↦
              (let more = sorted n is.listed.0 p.address is.p.address behind (there n p at) (there is.listed.0 is.p is.listed.1) in
              omega (arith, more, is.here, less))
          | inr same ↦
              (let e : is.listed.0 ≡ n = omega (arith, same, later) in
              let one : slice_get placed n ≡ Some is.p = subst (λ (k : ℕ). slice_get placed k ≡ Some is.p) e is.listed.1 in
              let equal : is.p ≡ p = cc in
              let addresses : is.p.address ≡ p.address = ap address_of equal in
              omega (arith, addresses, is.here, less))
        ]

pub none_least : (nodes : List ℕ) (placed : List Placed) (n : ℕ) → length placed ≤ n → NoneBefore nodes placed n
    → IsLeast (StandsReading nodes placed) None
none_least nodes placed n past before b is =
    let within = slice_get_within placed is.listed.0 is.p is.listed.1 in
    before is.listed.0 is.p (omega (arith, within, past)) is.listed.1 is.reading

module _ (program : Program) (code : Code) (segments : AllByRecursion IsSegment program.parts) (is : IsCodeOf program code)
    (nodes : List ℕ) (all : IsReachedSet (next code.placed code.sites) (nodes_of program.entries Any) nodes) where
  -- what is found is the fault
  found_is : (a : ℕ) → StandsReading nodes code.placed a ↔ ReadsUndefined program a
  found_is a = (to, from)
    where
      to : StandsReading nodes code.placed a → ReadsUndefined program a
      to found =
          let flag = found.reading.0 in
          let placed = (is.placed.exact found.p).0 found.listed in
          let low = placed_low program code segments is found.p placed in
          let path = (comes_undefined program code segments is flag found.p.address (omega (arith, low))).0
          (all.only _ found.reading.1.found) in
          record {
            p = found.p;
            placed = placed;
            here = found.here;
            flag = flag;
            reading = found.reading.1.reading;
            undefined = subst (λ (x : ℕ). PathTo program flag x true) found.here path;
          }

      from : ReadsUndefined program a → StandsReading nodes code.placed a
      from fault =
          let low = placed_low program code segments is fault.p fault.placed in
          let comes = (comes_undefined program code segments is fault.flag fault.p.address (omega (arith, low))).1
          (subst (λ (x : ℕ). PathTo program fault.flag x true) (sym fault.here) fault.undefined) in
          record {
            p = fault.p;
            listed = (is.placed.exact fault.p).1 fault.placed;
            here = fault.here;
            reading = (fault.flag, record { reading = fault.reading; found = all.each _ comes });
          }

  -- the least that is found is the first fault
  pub undefined_first : (a : ℕ) → IsLeast (StandsReading nodes code.placed) (Some a) → IsFirst (Holds program) 18 19 (UndefinedFlag a)
  undefined_first a least = record {
    holds = (found_is a).0 least.0;
    from = omega arith;
    below = omega arith;
    first = before;
  }
    where
      before : (g : FileFault) → 18 ≤ rank g → Before g (UndefinedFlag a) → Holds program g → ⊥
      before (UndefinedFlag b) low (inl less) holds = omega (arith, less)
      before (UndefinedFlag b) low (inr less) holds = least.1 b less.1 ((found_is b).1 holds)
      before g low first holds = holds

  pub none_clear : IsLeast (StandsReading nodes code.placed) None → Clear (Holds program) 18 19
  none_clear none (UndefinedFlag b) low high holds = none b ((found_is b).1 holds)
  none_clear none g low high holds = holds

-- the addresses of instructions that end low
pub addresses_low : (placed : List Placed) (sites : List ℕ) → IsOrdered placed sites → All (λ (p : Placed). p.address ≤ 2 ^ 60) placed
addresses_low placed sites ordered k d within =
    let p = get_or placed k d in
    let low = (ordered.low p (k, slice_get-get_or placed k d within)).end in
    omega (arith, low)
