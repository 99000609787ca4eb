-- A run is cut with something next, or has come to its end; and it passes through states.
use Rattle.std.proofs.Common.{◌≡◌, ℕ, suc, ◌+◌, List, [], ◌∷◌, ◌++◌, refl, sym, subst, arith, append_assoc, inl, inr}
use Rattle.std.proofs.lemmas.List.{append-nil}
use Rattle.ev_graph.specs.declared.events.Item.{Item}
use Rattle.ev_graph.specs.declared.events.End.{End}
use Rattle.ev_graph.specs.declared.events.End.TheVariants.{Running}
use Rattle.behavior.specs.Tree.{Tree, Gives, Next, Stops}
use Rattle.behavior.specs.Run.{Run, cuts, stops, goes_on}
use Rattle.behavior.specs.Rest.{ComesTo, at-start, past-begin, past-act, at-state, IsCutOrEnded, RunsComeTo}
use Rattle.behavior.specs.Passed.{Passes, cut-here, stops-here, passes-on}
use Rattle.behavior.proofs.Walks.{Walk, ends-cut, ends-stop, walks-on, walks-begin, walks-act, run_walk, walk_run}

comes_at : {S : Type 0} {step : S → Tree (Next S)} {s : S} {t : Tree (Next S)} (xs ys : List Item) (n m : ℕ) → xs ≡ ys → n ≡ m → ComesTo step s xs n t → ComesTo step s ys m t
comes_at {S} {step} {s} {t} xs ys n m same_items same_count comes =
    subst (λ k. ComesTo step s ys k t) same_count (subst (λ l. ComesTo step s l n t) same_items comes)

walk_to : {S : Type 0} {step : S → Tree (Next S)} {t : Tree (Next S)} {end : End} (xs ys : List Item) (n m : ℕ) → xs ≡ ys → n ≡ m → Walk step t xs end n → Walk step t ys end m
walk_to {S} {step} {t} {end} xs ys n m same_items same_count walk =
    subst (λ k. Walk step t ys end k) same_count (subst (λ l. Walk step t l end n) same_items walk)

ended_at : {S : Type 0} {step : S → Tree (Next S)} {s : S} {end : End} (xs ys : List Item) (n m : ℕ) → xs ≡ ys → n ≡ m → IsCutOrEnded step s xs end n → IsCutOrEnded step s ys end m
ended_at {S} {step} {s} {end} xs ys n m same_items same_count ended =
    subst (λ k. IsCutOrEnded step s ys end k) same_count (subst (λ l. IsCutOrEnded step s l end n) same_items ended)

-- from where a run has come to, a walk leads on to where the run is cut or ends
walk_ends : {S : Type 0} {step : S → Tree (Next S)} {s : S} {t : Tree (Next S)} {rest : List Item} {end : End} {m : ℕ} (items : List Item) (n : ℕ)
    → ComesTo step s items n t → Walk step t rest end m → IsCutOrEnded step s (items ++ rest) end (n + m)
walk_ends {t = t} items n comes ends-cut = ended_at items (items ++ []) n (n + 0) (sym (append-nil items)) (omega arith) (inl (refl, (t, comes)))
walk_ends items n comes ends-stop = ended_at items (items ++ []) n (n + 0) (sym (append-nil items)) (omega arith) (inr comes)
walk_ends items n comes (walks-on walk) = walk_ends items n (at-state comes) walk
walk_ends items n comes (walks-begin {items = rest} {n = m} walk) =
    ended_at (items ++ rest) (items ++ rest) (suc n + m) (n + suc m) refl (omega arith) (walk_ends items (suc n) (past-begin comes) walk)
walk_ends items n comes (walks-act {made = made} {items = rest} {n = m} value lt walk) =
    ended_at ((items ++ made value) ++ rest) (items ++ (made value ++ rest)) (n + m) (n + m) (append_assoc items (made value) rest) refl
    (walk_ends (items ++ made value) n (past-act value lt comes) walk)

-- what a run has come to is on a walk from its start
comes_walk : {S : Type 0} {step : S → Tree (Next S)} {s : S} {t : Tree (Next S)} {items rest : List Item} {end : End} {n m : ℕ}
    → ComesTo step s items n t → Walk step t rest end m → Walk step (step s) (items ++ rest) end (n + m)
comes_walk {rest = rest} {m = m} at-start walk = walk_to rest ([] ++ rest) m (0 + m) refl (omega arith) walk
comes_walk {rest = rest} {m = m} (past-begin {items = items} {n = n} comes) walk =
    walk_to (items ++ rest) (items ++ rest) (n + suc m) (suc n + m) refl (omega arith) (comes_walk comes (walks-begin walk))
comes_walk {rest = rest} {m = m} (past-act {items = items} {n = n} {made = made} value lt comes) walk =
    walk_to (items ++ (made value ++ rest)) ((items ++ made value) ++ rest) (n + m) (n + m) (sym (append_assoc items (made value) rest)) refl
    (comes_walk comes (walks-act value lt walk))
comes_walk (at-state comes) walk = comes_walk comes (walks-on walk)

-- where something stands next, a run may be cut
pub comes_run : {S : Type 0} {step : S → Tree (Next S)} {s : S} {t : Tree (Next S)} {items : List Item} {n : ℕ} → ComesTo step s items n t → Run step s items Running n
comes_run {items = items} {n = n} comes = walk_run (walk_to (items ++ []) items (n + 0) n (append-nil items) (omega arith) (comes_walk comes ends-cut))

-- where an end stands next, a run has this end
pub ends_run : {S : Type 0} {step : S → Tree (Next S)} {s : S} {items : List Item} {end : End} {n : ℕ} → ComesTo step s items n (Gives (Stops end)) → Run step s items end n
ends_run {items = items} {n = n} comes = walk_run (walk_to (items ++ []) items (n + 0) n (append-nil items) (omega arith) (comes_walk comes ends-stop))

-- each run is cut with something next, or has come to its end
pub run_ends : {S : Type 0} {step : S → Tree (Next S)} {s : S} {items : List Item} {end : End} {n : ℕ} → Run step s items end n → IsCutOrEnded step s items end n
run_ends {items = items} {n = n} run = ended_at ([] ++ items) items (0 + n) n refl (omega arith) (walk_ends [] 0 at-start (run_walk run))

-- and these are all runs
pub runs_come_to : {S : Type 0} (step : S → Tree (Next S)) → RunsComeTo step
runs_come_to {S} step s items end n = (run_ends, back)
  where
    back : IsCutOrEnded step s items end n → Run step s items end n
    back (inl cut) = subst (λ e. Run step s items e n) (sym cut.0) (comes_run cut.1.1)
    back (inr ended) = ends_run ended

-- each run passes through states
pub run_passes : {S : Type 0} {step : S → Tree (Next S)} {s : S} {items : List Item} {end : End} {n : ℕ} → Run step s items end n
    → (states : List S) × Passes step s states items end n
run_passes {s = s} (cuts path) = (s ∷ [], cut-here path)
run_passes {s = s} (stops path) = (s ∷ [], stops-here path)
run_passes {s = s} (goes_on path run) = let rest = run_passes run in (s ∷ rest.0, passes-on path rest.1)

-- what passes through states is a run
pub passes_run : {S : Type 0} {step : S → Tree (Next S)} {s : S} {states : List S} {items : List Item} {end : End} {n : ℕ} → Passes step s states items end n
    → Run step s items end n
passes_run (cut-here path) = cuts path
passes_run (stops-here path) = stops path
passes_run (passes-on path passes) = goes_on path (passes_run passes)
