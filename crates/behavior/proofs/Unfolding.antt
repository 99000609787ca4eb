-- Trees whose results have a property, and what unfolds where such a tree goes on.
use Rattle.std.proofs.Common.{ℕ, ◌<◌, Bool, true, false}
use Rattle.std.specs.Prelude.{if◌then◌else◌}
use Rattle.behavior.specs.Tree.{Tree, Gives, Begins, Acts, Next, Goes, Stops, ◌then◌}
use Rattle.behavior.proofs.Blocks.{Unfolds, block-ends, block-begins, block-acts}

-- each state to which the tree comes has the property
abbrev pub AllResults : {S : Type 0} → (S → Type 0) → Tree (Next S) → Type 0
AllResults P (Gives (Goes s)) = P s
AllResults P (Gives (Stops end)) = Unit {0}
AllResults P (Begins t) = AllResults P t
AllResults P (Acts range made next) = (v : ℕ) → v < range → AllResults P (next v)

pub results_choice : {S : Type 0} (P : S → Type 0) (b : Bool) (t u : Tree (Next S)) → AllResults P t → AllResults P u → AllResults P (if b then t else u)
results_choice P true t u first second = first
results_choice P false t u first second = second

-- a machine's step unfolds into itself
pub unfolds_self : {T : Type 0} (step : T → Tree (Next T)) (t : Tree (Next T)) → Unfolds step t t
unfolds_self step (Gives next) = block-ends
unfolds_self step (Begins t) = block-begins (unfolds_self step t)
unfolds_self step (Acts range made next) = block-acts (λ v lt. unfolds_self step (next v))

-- the same row, and then what unfolds
pub unfolds_then : {S T : Type 0} (step : T → Tree (Next T)) (P : S → Type 0) (t : Tree (Next S)) (f g : S → Tree (Next T))
    → AllResults P t → ((s : S) → P s → Unfolds step (f s) (g s)) → Unfolds step (t then f) (t then g)
unfolds_then step P (Gives (Goes s)) f g results later = later s results
unfolds_then step P (Gives (Stops end)) f g results later = block-ends
unfolds_then step P (Begins t) f g results later = block-begins (unfolds_then step P t f g results later)
unfolds_then step P (Acts range made next) f g results later = block-acts (λ v lt. unfolds_then step P (next v) f g (results v lt) later)
