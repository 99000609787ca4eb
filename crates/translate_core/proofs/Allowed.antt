-- The accesses of a program's threads are allowed.
use Rattle.std.proofs.Common.{◌≡◌, ℕ, ◌==◌, List, [], ◌∷◌, Option, Some, None, refl, sym, subst}
use Rattle.std.specs.List.{AllByRecursion}
use Rattle.ev_graph.specs.declared.events.End.{End}
use Rattle.ev_graph.specs.declared.events.Item.{Item}
use Rattle.ev_graph.specs.declared.events.Item.TheVariants as items
use Rattle.behavior.specs.Tree.{Tree, Point, Path, cut, begins, Next}
use Rattle.behavior.specs.Acts.{Permission}
use Rattle.behavior.specs.Run.{Run, cuts, stops, goes_on}
use Rattle.behavior.proofs.Lists.{all_append}
use Rattle.behavior.proofs.Makes.{AllMakes, makes_choice}
use Rattle.behavior.proofs.Paths.{Split, within, ended, beyond, split}
use Rattle.x64_syntax.specs.declared.placed.Placed.{Placed}
use Rattle.x64_table.specs.Laws.{IsAllowed}
use Rattle.x64_table.specs.State.{Thread}
use Rattle.x64_table.specs.Rows.{Exit, State, Return, Indexed, row_of}
use Rattle.x64_table.specs.Machine.{no_entries, resolve, x64_take}
use Rattle.x64_table.proofs.CallerLemmas.{rows_allowed}
use Rattle.code_at.specs.Code.{Program}
use Rattle.code_at.proofs.CallerLemmas.{is_formed}
use Rattle.cfg_walk.specs.declared.code.Code.{Code}
use Rattle.cfg_walk.specs.Code.{IsCodeOf}
use Rattle.cfg_walk.specs.Machine.{placed_at, has_address, code_for_threads, thread_step}
use Rattle.cfg_walk.proofs.CallerLemmas.{finds_code}
use Rattle.translate_core.proofs.Accounted.{IsPermitted}
use Rattle.translate_core.proofs.Made.{path_all}

-- an item that a row may make is permitted
permitted_item : (may : Permission) (place : ℕ) (i : Item) → IsAllowed may place i → IsPermitted may i
permitted_item may place (items.Access a) is = is.2
permitted_item may place (items.Fence f) is = tt
permitted_item may place (items.Input t) is = tt
permitted_item may place (items.Output t) is = tt

permitted_items : (may : Permission) (place : ℕ) (is : List Item) → AllByRecursion (IsAllowed may place) is → AllByRecursion (IsPermitted may) is
permitted_items may place [] all = tt
permitted_items may place (i ∷ is) all = (permitted_item may place i all.0, permitted_items may place is all.1)

module _ (program : Program) (code : Code) (is : IsCodeOf program code) (may : Permission) where
  exit_permitted : (e : Exit) → AllMakes (IsPermitted may) (resolve (has_address code.sites) no_entries e)
  exit_permitted (State t) = tt
  exit_permitted (Return t v) = makes_choice (IsPermitted may) (v == 0) _ _ tt (makes_choice (IsPermitted may) (has_address code.sites v) _ _ tt tt)
  exit_permitted (Indexed t k) = tt

  take_permitted : (s : Thread) (o : Option Placed) → placed_at code.placed s.at ≡ o → {made : List Item} {p : Point (Next Thread)} {n : ℕ}
      → Path (x64_take may (code_for_threads code) o s) made p n → AllByRecursion (IsPermitted may) made
  take_permitted s None found path = path_all (IsPermitted may) tt path
  take_permitted s (Some p) found cut = tt
  take_permitted s (Some p) found (begins path) = by (split row (resolve (has_address code.sites) no_entries) path)
    where
      row : Tree (Next Exit)
      row = row_of may p.instr p.length p.flow s

      of_row : {made : List Item} {q : Point (Next Exit)} {n : ℕ} → Path row made q n → AllByRecursion (IsPermitted may) made
      of_row {made} {q} {n} path =
          let placed = (((finds_code program code is).placed s.at p).0 found).0 in
          permitted_items may s.at made (rows_allowed may p.instr p.length p.flow s (is_formed program p.address p placed.stands) made q n path)

      by : {made : List Item} {q : Point (Next Thread)} {n : ℕ} → Split row (resolve (has_address code.sites) no_entries) made q n → AllByRecursion (IsPermitted may) made
      by (within path) = of_row path
      by (ended path) = of_row path
      by (beyond {s = e} {xs = xs} {ys = ys} path more same_items same_count) =
          subst (AllByRecursion (IsPermitted may)) (sym same_items) (all_append (IsPermitted may) xs ys (of_row path) (path_all (IsPermitted may) (exit_permitted e) more))

  -- the accesses of a run are permitted
  pub run_permitted : {s : Thread} {made : List Item} {end : End} {n : ℕ} → Run (thread_step may code) s made end n → AllByRecursion (IsPermitted may) made
  run_permitted {s} (cuts path) = take_permitted s (placed_at code.placed s.at) refl path
  run_permitted {s} (stops path) = take_permitted s (placed_at code.placed s.at) refl path
  run_permitted {s} (goes_on {items = xs} {rest = ys} path run) =
      all_append (IsPermitted may) xs ys (take_permitted s (placed_at code.placed s.at) refl path) (run_permitted run)
