-- Trees of which each result has a property, ends too.
use Rattle.std.proofs.Common.{ℕ, ◌<◌, Bool, true, false, List}
use Rattle.std.specs.Prelude.{if◌then◌else◌}
use Rattle.ev_graph.specs.declared.events.Item.{Item}
use Rattle.ev_graph.specs.declared.events.End.{End}
use Rattle.behavior.specs.Tree.{Tree, Gives, Begins, Acts, At, Path, gives, begins, acts, Next, Goes, Stops, ◌then◌}
use Rattle.behavior.proofs.Unfolding.{AllResults}

-- each result of the tree has the property
abbrev pub AllNext : {S : Type 0} → (Next S → Type 0) → Tree (Next S) → Type 0
AllNext P (Gives next) = P next
AllNext P (Begins t) = AllNext P t
AllNext P (Acts range made next) = (v : ℕ) → v < range → AllNext P (next v)

-- so has the result at which a path stops
pub next_at : {S : Type 0} (P : Next S → Type 0) {t : Tree (Next S)} {items : List Item} {next : Next S} {n : ℕ} → Path t items (At next) n → AllNext P t → P next
next_at P gives all = all
next_at P (begins path) all = next_at P path all
next_at P (acts v lt path) all = next_at P path (all v lt)

-- what holds of the results of a tree, and of those of what follows
pub next_then : {S T : Type 0} (P : Next S → Type 0) (Q : Next T → Type 0) (t : Tree (Next S)) (f : S → Tree (Next T))
    → AllNext P t → ((s : S) → P (Goes s) → AllNext Q (f s)) → ((end : End) → P (Stops end) → Q (Stops end)) → AllNext Q (t then f)
next_then P Q (Gives (Goes s)) f all later ended = later s all
next_then P Q (Gives (Stops end)) f all later ended = ended end all
next_then P Q (Begins t) f all later ended = next_then P Q t f all later ended
next_then P Q (Acts range made next) f all later ended = λ v lt. next_then P Q (next v) f (all v lt) later ended

-- the states to which it comes
pub next_results : {S : Type 0} (P : Next S → Type 0) (t : Tree (Next S)) → AllNext P t → AllResults (λ s. P (Goes s)) t
next_results P (Gives (Goes s)) all = all
next_results P (Gives (Stops end)) all = tt
next_results P (Begins t) all = next_results P t all
next_results P (Acts range made next) all = λ v lt. next_results P (next v) (all v lt)

-- and either of two trees
pub next_choice : {S : Type 0} (P : Next S → Type 0) (b : Bool) (t u : Tree (Next S)) → AllNext P t → AllNext P u → AllNext P (if b then t else u)
next_choice P true t u first second = first
next_choice P false t u first second = second
