-- A run from within a step on, taken apart act by act.
use Rattle.std.proofs.Common.{◌≡◌, ℕ, suc, ◌+◌, ◌<◌, List, [], ◌++◌, refl, sym, ap, ◌∙◌, subst, arith, append_assoc}
use Rattle.ev_graph.specs.declared.events.Item.{Item}
use Rattle.ev_graph.specs.declared.events.End.{End}
use Rattle.ev_graph.specs.declared.events.End.TheVariants.{Running}
use Rattle.behavior.specs.Tree.{Tree, Gives, Begins, Acts, Cut, At, Path, cut, gives, begins, acts, Next, Goes, Stops}
use Rattle.behavior.specs.Run.{Run, cuts, stops, goes_on}

-- What a machine does from within a step on: through the tree, and on with the next step where it comes to a state.
pub data Walk {S : Type 0} (step : S → Tree (Next S)) : Tree (Next S) → List Item → End → ℕ → Type 0 where
  ends-cut : {t : Tree (Next S)} → Walk step t [] Running 0
  ends-stop : {end : End} → Walk step (Gives (Stops end)) [] end 0
  walks-on : {s : S} {items : List Item} {end : End} {n : ℕ} → Walk step (step s) items end n → Walk step (Gives (Goes s)) items end n
  walks-begin : {t : Tree (Next S)} {items : List Item} {end : End} {n : ℕ} → Walk step t items end n → Walk step (Begins t) items end (suc n)
  walks-act : {range : ℕ} {made : ℕ → List Item} {next : ℕ → Tree (Next S)} {items : List Item} {end : End} {n : ℕ}
      (value : ℕ) → value < range → Walk step (next value) items end n → Walk step (Acts range made next) (made value ++ items) end n

-- The same in whole pieces: a path through the tree, and then a run from the state to which it comes.
pub data From {S : Type 0} (step : S → Tree (Next S)) (t : Tree (Next S)) : List Item → End → ℕ → Type 0 where
  from-cut : {items : List Item} {n : ℕ} → Path t items Cut n → From step t items Running n
  from-stop : {end : End} {items : List Item} {n : ℕ} → Path t items (At (Stops end)) n → From step t items end n
  from-go : {s : S} {items rest all : List Item} {end : End} {n m total : ℕ}
      → Path t items (At (Goes s)) n → Run step s rest end m → all ≡ items ++ rest → total ≡ n + m → From step t all end total

walk_at : {S : Type 0} {step : S → Tree (Next S)} {t : Tree (Next S)} {end : End} (xs ys : List Item) (n m : ℕ) → xs ≡ ys → n ≡ m → Walk step t xs end n → Walk step t ys end m
walk_at {S} {step} {t} {end} xs ys n m same_items same_count walk =
    subst (λ k. Walk step t ys end k) same_count (subst (λ l. Walk step t l end n) same_items walk)

run_at : {S : Type 0} {step : S → Tree (Next S)} {s : S} {end : End} (xs ys : List Item) (n m : ℕ) → xs ≡ ys → n ≡ m → Run step s xs end n → Run step s ys end m
run_at {S} {step} {s} {end} xs ys n m same_items same_count run =
    subst (λ k. Run step s ys end k) same_count (subst (λ l. Run step s l end n) same_items run)

cut_walk : {S : Type 0} {step : S → Tree (Next S)} {t : Tree (Next S)} {items : List Item} {n : ℕ} → Path t items Cut n → Walk step t items Running n
cut_walk cut = ends-cut
cut_walk (begins path) = walks-begin (cut_walk path)
cut_walk (acts value lt path) = walks-act value lt (cut_walk path)

stop_walk : {S : Type 0} {step : S → Tree (Next S)} {end : End} {t : Tree (Next S)} {items : List Item} {n : ℕ} → Path t items (At (Stops end)) n → Walk step t items end n
stop_walk gives = ends-stop
stop_walk (begins path) = walks-begin (stop_walk path)
stop_walk (acts value lt path) = walks-act value lt (stop_walk path)

go_walk : {S : Type 0} {step : S → Tree (Next S)} {s : S} {end : End} {rest : List Item} {m : ℕ} {t : Tree (Next S)} {items : List Item} {n : ℕ}
    → Path t items (At (Goes s)) n → Walk step (step s) rest end m → Walk step t (items ++ rest) end (n + m)
go_walk {rest = rest} {m = m} gives walk = walk_at rest rest m (0 + m) refl (omega arith) (walks-on walk)
go_walk {m = m} (begins {n = n} path) walk = walk_at _ _ (suc (n + m)) (suc n + m) refl (omega arith) (walks-begin (go_walk path walk))
go_walk {rest = rest} (acts {made = made} {items = xs} value lt path) walk =
    walk_at _ _ _ _ (sym (append_assoc (made value) xs rest)) refl (walks-act value lt (go_walk path walk))

-- a run is a walk from its first step on
pub run_walk : {S : Type 0} {step : S → Tree (Next S)} {s : S} {items : List Item} {end : End} {n : ℕ} → Run step s items end n → Walk step (step s) items end n
run_walk (cuts path) = cut_walk path
run_walk (stops path) = stop_walk path
run_walk (goes_on path run) = go_walk path (run_walk run)

-- and so is a path with the run behind it
pub from_walk : {S : Type 0} {step : S → Tree (Next S)} {t : Tree (Next S)} {items : List Item} {end : End} {n : ℕ} → From step t items end n → Walk step t items end n
from_walk (from-cut path) = cut_walk path
from_walk (from-stop path) = stop_walk path
from_walk (from-go path run same_items same_count) = walk_at _ _ _ _ (sym same_items) (sym same_count) (go_walk path (run_walk run))

-- a path from a state on with the run behind it is a run
pub from_run : {S : Type 0} {step : S → Tree (Next S)} {s : S} {items : List Item} {end : End} {n : ℕ} → From step (step s) items end n → Run step s items end n
from_run (from-cut path) = cuts path
from_run (from-stop path) = stops path
from_run (from-go path run same_items same_count) = run_at _ _ _ _ (sym same_items) (sym same_count) (goes_on path run)

from_begins : {S : Type 0} {step : S → Tree (Next S)} {t : Tree (Next S)} {items : List Item} {end : End} {n : ℕ} → From step t items end n → From step (Begins t) items end (suc n)
from_begins (from-cut path) = from-cut (begins path)
from_begins (from-stop path) = from-stop (begins path)
from_begins (from-go path run same_items same_count) = from-go (begins path) run same_items (omega (arith, same_count))

from_acts : {S : Type 0} {step : S → Tree (Next S)} {range : ℕ} {made : ℕ → List Item} {next : ℕ → Tree (Next S)} {items : List Item} {end : End} {n : ℕ}
    (value : ℕ) → value < range → From step (next value) items end n → From step (Acts range made next) (made value ++ items) end n
from_acts value lt (from-cut path) = from-cut (acts value lt path)
from_acts value lt (from-stop path) = from-stop (acts value lt path)
from_acts {made = made} value lt (from-go {items = xs} {rest = rest} path run same_items same_count) =
    from-go (acts value lt path) run (ap (λ l. made value ++ l) same_items ∙ sym (append_assoc (made value) xs rest)) same_count

-- a walk goes through its tree first
pub walk_from : {S : Type 0} {step : S → Tree (Next S)} {t : Tree (Next S)} {items : List Item} {end : End} {n : ℕ} → Walk step t items end n → From step t items end n
walk_from ends-cut = from-cut cut
walk_from ends-stop = from-stop gives
walk_from (walks-on walk) = from-go gives (from_run (walk_from walk)) refl (omega arith)
walk_from (walks-begin walk) = from_begins (walk_from walk)
walk_from (walks-act value lt walk) = from_acts value lt (walk_from walk)

-- a walk from a state on is a run
pub walk_run : {S : Type 0} {step : S → Tree (Next S)} {s : S} {items : List Item} {end : End} {n : ℕ} → Walk step (step s) items end n → Run step s items end n
walk_run walk = from_run (walk_from walk)
