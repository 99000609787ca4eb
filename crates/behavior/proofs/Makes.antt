-- What holds of each item that a machine can make holds of the items of its runs.
use Rattle.std.proofs.Common.{◌≡◌, ℕ, ◌^◌, ◌<◌, Bool, true, false, List, [], ◌∷◌, ◌++◌, refl}
use Rattle.std.specs.Prelude.{◌%◌, if◌then◌else◌}
use Rattle.std.specs.List.{AllByRecursion}
use Rattle.ev_graph.specs.declared.events.Item.{Item}
use Rattle.ev_graph.specs.declared.events.AccessKind.TheVariants.{Read, Write}
use Rattle.ev_graph.specs.declared.events.End.{End}
use Rattle.ev_graph.specs.declared.events.TrapKind.TheVariants.{BadAccess}
use Rattle.behavior.specs.Tree.{Tree, Gives, Begins, Acts, Point, Path, cut, gives, begins, acts, Next, Goes, Stops, ◌then◌}
use Rattle.behavior.specs.Acts.{Permission, traps, access, makes, reads, writes}
use Rattle.behavior.specs.Run.{Run, cuts, stops, goes_on}

-- each item that the tree can make has this property
abbrev pub AllMakes : {R : Type 0} → (Item → Type 0) → Tree R → Type 0
AllMakes P (Gives r) = Unit {0}
AllMakes P (Begins t) = AllMakes P t
AllMakes P (Acts range made next) = (v : ℕ) → v < range → AllByRecursion P (made v) × AllMakes P (next v)

all_join : (P : Item → Type 0) (xs ys : List Item) → AllByRecursion P xs → AllByRecursion P ys → AllByRecursion P (xs ++ ys)
all_join P [] ys first second = second
all_join P (x ∷ xs) ys first second = (first.0, all_join P xs ys first.1 second)

path_makes : {R : Type 0} (P : Item → Type 0) {t : Tree R} {items : List Item} {p : Point R} {n : ℕ} → AllMakes P t → Path t items p n → AllByRecursion P items
path_makes P all cut = tt
path_makes P all gives = tt
path_makes P all (begins path) = path_makes P all path
path_makes P all (acts {made = made} {items = items} v lt path) = all_join P (made v) items (all v lt).0 (path_makes P (all v lt).1 path)

pub run_makes : {S : Type 0} (P : Item → Type 0) {step : S → Tree (Next S)} → ((s : S) → AllMakes P (step s))
    → {s : S} {items : List Item} {end : End} {n : ℕ} → Run step s items end n → AllByRecursion P items
run_makes P all {s} (cuts path) = path_makes P (all s) path
run_makes P all {s} (stops path) = path_makes P (all s) path
run_makes P all {s} (goes_on {items = items} {rest = rest} path run) = all_join P items rest (path_makes P (all s) path) (run_makes P all run)

-- trees that are put together
pub makes_then : {S T : Type 0} (P : Item → Type 0) (t : Tree (Next S)) (f : S → Tree (Next T)) → AllMakes P t → ((s : S) → AllMakes P (f s)) → AllMakes P (t then f)
makes_then P (Gives (Goes s)) f first second = second s
makes_then P (Gives (Stops end)) f first second = tt
makes_then P (Begins t) f first second = makes_then P t f first second
makes_then P (Acts range made next) f first second = λ v lt. ((first v lt).0, makes_then P (next v) f (first v lt).1 second)

pub makes_choice : {R : Type 0} (P : Item → Type 0) (b : Bool) (t u : Tree R) → AllMakes P t → AllMakes P u → AllMakes P (if b then t else u)
makes_choice P true t u first second = first
makes_choice P false t u first second = second

-- a read and a write are made only where they are allowed
pub makes_reads : {S : Type 0} (P : Item → Type 0) (may : Permission) (place address size : ℕ) (go : ℕ → Tree (Next S))
    → (may false address size ≡ true → (v : ℕ) → P (access Read false place address size v)) → ((v : ℕ) → AllMakes P (go v)) → AllMakes P (reads may place address size go)
makes_reads {S = S} P may place address size go here later = by_test (may false address size) here
  where
    by_test : (b : Bool) → (b ≡ true → (v : ℕ) → P (access Read false place address size v))
        → AllMakes P (if b then Acts (256 ^ size) (λ v. access Read false place address size v ∷ []) go else traps {S = S} BadAccess)
    by_test true here = λ v lt. ((here refl v, tt), later v)
    by_test false here = tt

pub makes_writes : {S : Type 0} (P : Item → Type 0) (may : Permission) (place address size value : ℕ) (go : Tree (Next S))
    → (may true address size ≡ true → P (access Write false place address size (value % 256 ^ size))) → AllMakes P go → AllMakes P (writes may place address size value go)
makes_writes {S = S} P may place address size value go here later = by_test (may true address size) here
  where
    by_test : (b : Bool) → (b ≡ true → P (access Write false place address size (value % 256 ^ size)))
        → AllMakes P (if b then makes (access Write false place address size (value % 256 ^ size)) go else traps {S = S} BadAccess)
    by_test true here = λ v lt. ((here refl, tt), later)
    by_test false here = tt
