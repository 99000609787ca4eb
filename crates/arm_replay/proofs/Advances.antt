-- What the answer of a row, on the first of the values that are left, says of the tree of the step.
use Rattle.std.proofs.Common.{◌≡◌, ℕ, zero, suc, ◌+◌, ◌<◌, ◌≤◌, ◌^◌, List, [], ◌∷◌, ◌++◌, length, drop, Option, Some, None, refl, sym, ap, ◌∙◌, subst, arith, inl, inr, ◌⊎◌, ⊎_elim}
use Rattle.std.specs.Prelude.{Bool, true, false, IfSome}
use Rattle.std.proofs.lemmas.List.{append-nil}
use Rattle.ev_graph.specs.declared.events.AccessKind.TheVariants.{Read, Write}
use Rattle.ev_graph.specs.declared.events.Item.{Item}
use Rattle.ev_graph.specs.declared.events.Item.TheVariants as items
use Rattle.ev_graph.specs.declared.execution.Source.{Source}
use Rattle.ev_graph.specs.declared.rows.RowItems.{RowItems}
use Rattle.behavior.specs.Tree.{Tree, Gives, Acts, Next, Goes, Stops, ◌then◌}
use Rattle.behavior.specs.Acts.{access, locked_write, goes}
use Rattle.behavior.specs.Rest.{ComesTo, past-act, at-state}
use Rattle.behavior.specs.Seen.{counted}
use Rattle.a64_code.specs.declared.instr.XReg.{XReg}
use Rattle.a64_table.specs.declared.rows.ANext.TheVariants as nexts
use Rattle.a64_table.specs.declared.rows.ARow.{ARow}
use Rattle.a64_table.specs.declared.rows.ARow.TheVariants as rows
use Rattle.a64_table.specs.declared.rows.FenceChoice.{FenceChoice}
use Rattle.a64_table.specs.declared.rows.FenceChoice.TheVariants as choices
use Rattle.a64_table.specs.declared.state.A64State.{A64State}
use Rattle.a64_table.specs.declared.state.Done.{Done}
use Rattle.a64_table.specs.State.{xregs, after, moved}
use Rattle.a64_table.specs.Answers.{need_of, row_items, fence_choice, no_items, next_state, shown}
use Rattle.a64_table.specs.Machine.{AThread, Shows}
use Rattle.a64_table.proofs.CallerLemmas.{thread_after, next_shown}
use Rattle.exec_text.specs.declared.exec_file.Given.{Given}
use Rattle.exec_text.specs.declared.exec_file.Given.TheVariants as given
use Rattle.exec_text.specs.declared.exec_file.GivenThread.{GivenThread}
use Rattle.arm_replay.specs.declared.fault.ReplayKind.{ReplayKind}
use Rattle.arm_replay.specs.declared.fault.ReplayKind.TheVariants.{Values, Sources, Wide, Early, Split, Left, More, End as OtherEnd, Steps}
use Rattle.arm_replay.specs.Values.{HasSources, Takes}
use Rattle.arm_replay.specs.Faults.{IsMissing, GoesOn, IsPast, IsFaultAt, values, sources, wide, split, more, EndsAtOnce}
use Rattle.arm_replay.specs.Walking.{told_at, listed, count_in, one, read_value, input_value, LineHasSources, ReadFits, IsMisread, IsMisfit}
use Rattle.arm_replay.proofs.RowShapes.{RowShape, only, reading, taking, writing, fencing, putting}
use Rattle.arm_replay.proofs.ValueLemmas.{first_of}

-- The row goes on. What it has made is on the tree, where it fits; and what does not fit is a fault there.
pub record Advance (place : ℕ) (left : List Given) (tree : Tree (Next AThread)) (made : RowItems) (fence : FenceChoice) (next : A64State) : Type 0 where
  pub state : AThread
  pub shows : Shows next state
  pub comes : (step : AThread → Tree (Next AThread)) (start : AThread) (is : List Item) (n : ℕ) → ReadFits (first_of left) made
      → ComesTo step start is n tree → ComesTo step start (is ++ listed place made fence) n (step state)
  pub counts : counted (listed place made fence) ≡ count_in made
  pub at_once : 0 < count_in made → EndsAtOnce (listed place made fence)
  pub takes : ReadFits (first_of left) made → Takes (listed place made fence) left (drop (one made.read + one made.input) left)
  pub taken : one made.read + one made.input ≤ length left
  pub alone : one made.read + one made.input ≤ 1
  pub misfit : (thread : GivenThread) (have begun : ℕ) (kind : ReplayKind) → GoesOn thread have left
      → IsMisfit have thread.count (first_of left) made kind → IsFaultAt thread have begun left tree (told_at have thread.count kind) kind

-- an act comes for which the value is missing
pub record Lacks (left : List Given) (tree : Tree (Next AThread)) : Type 0 where
  pub range : ℕ
  pub make : ℕ → List Item
  pub next : ℕ → Tree (Next AThread)
  pub same : tree ≡ Acts range make next
  pub missing : IsMissing (need_of (make 0)) left
  pub some : 0 < counted (make 0)

-- what an answer says
abbrev pub Leads : (place : ℕ) → List Given → Tree (Next AThread) → ARow → Type 0
Leads place left tree (rows.WantsRead wanted) = Lacks left tree
Leads place left tree rows.WantsInput = Lacks left tree
Leads place left tree (rows.Done made fence (nexts.End end)) = tree ≡ Gives (Stops end)
Leads place left tree (rows.Done made fence (nexts.State next)) = Advance place left tree made fence next

-- who goes on with all made is past
pub past : (thread : GivenThread) (have : ℕ) (left : List Given) → GoesOn thread have left → have ≡ thread.count → IsPast thread have left
past thread have left (inl fewer) all = absurd (omega (arith, fewer, all))
past thread have left (inr all_made) all = all_made

-- a place with other items
items_at : {step : AThread → Tree (Next AThread)} {start : AThread} {t : Tree (Next AThread)} (xs ys : List Item) (n : ℕ) → xs ≡ ys → ComesTo step start xs n t → ComesTo step start ys n t
items_at {step} {start} {t} xs ys n same comes = subst (λ l. ComesTo step start l n t) same comes

module _ (set : Option XReg) (s : A64State) (t : AThread) (shows : Shows s t) where
  abbrev on : Done → Tree (Next AThread)
  on d = goes (thread_after set d t)

  -- nothing is made
  quiet : (left : List Given) (d : Done) → Advance s.at left (Gives (Goes (thread_after set d t))) no_items choices.None (next_state set d s)
  quiet left d = record {
    state = thread_after set d t;
    shows = next_shown s t set d shows;
    comes = λ step start is n fits comes. items_at is (is ++ []) n (sym (append-nil is)) (at-state comes);
    counts = refl;
    at_once = λ some. absurd (omega (arith, some));
    takes = λ fits. refl;
    taken = omega arith;
    alone = omega arith;
    misfit = none;
  }
    where
      none : (thread : GivenThread) (have begun : ℕ) (kind : ReplayKind) → GoesOn thread have left
          → IsMisfit have thread.count (first_of left) no_items kind → IsFaultAt thread have begun left (Gives (Goes (thread_after set d t))) (told_at have thread.count kind) kind
      none thread have begun More goes_on is = absurd (omega (arith, is.1))
      none thread have begun Split goes_on is = absurd (omega (arith, is.0, is.2))
      none thread have begun Sources goes_on is = absurd is.1
      none thread have begun Wide goes_on is = absurd is.1
      none thread have begun Values goes_on is = absurd is.1
      none thread have begun Early goes_on is = absurd is.1
      none thread have begun Left goes_on is = absurd is.1
      none thread have begun OtherEnd goes_on is = absurd is.1
      none thread have begun Steps goes_on is = absurd is.1

  -- a read, and the write that may follow it, on the value of a line
  module _ (locked : Bool) (address size : ℕ) (new : ℕ → Option ℕ) (to : ℕ → Done) (v : ℕ) (list : List Source) (rest : List Given) where
    abbrev make : ℕ → List Item
    make v = access Read locked s.at address size v ∷ locked_write s.at address size (new v)

    abbrev made_by : Option ℕ → List Item
    made_by w = access Read locked s.at address size v ∷ locked_write s.at address size w

    abbrev tree_read : Tree (Next AThread)
    tree_read = Acts (256 ^ size) make (λ v. Gives (Goes (thread_after set (to v) t)))

    abbrev here : List Given
    here = given.Read v list ∷ rest

    abbrev lines : (w : Option ℕ) → RowItems
    lines w = row_items (made_by w)

    comes_read : (w : Option ℕ) → w ≡ new v → (step : AThread → Tree (Next AThread)) (start : AThread) (is : List Item) (n : ℕ) → v < 256 ^ size
        → ComesTo step start is n tree_read → ComesTo step start (is ++ made_by w) n (step (thread_after set (to v) t))
    comes_read w e step start is n lt comes =
        items_at (is ++ make v) (is ++ made_by w) n (ap (λ u. is ++ (access Read locked s.at address size v ∷ locked_write s.at address size u)) (sym e)) (at-state (past-act v lt comes))

    split_read : (w : Option ℕ) → w ≡ new v → (thread : GivenThread) (have begun : ℕ) → have < thread.count → HasSources size list → v < 256 ^ size
        → thread.count < have + counted (made_by w) → IsFaultAt thread have begun here tree_read thread.count Split
    split_read w e thread have begun fewer has lt many =
        split v fewer (list, rest, refl, has) lt (subst (λ u. thread.count < have + counted (access Read locked s.at address size v ∷ locked_write s.at address size u)) e many)

    misfit_read : (w : Option ℕ) → w ≡ new v → (wrote : RowItems) → count_in wrote ≡ counted (made_by w) → wrote.read ≡ Some (record { id = record { thread = 0; index = 0 }; kind = Read; locked = locked; address = address; size = size; value = v; place = s.at })
        → (thread : GivenThread) (have begun : ℕ) (kind : ReplayKind) → GoesOn thread have here
        → IsMisfit have thread.count (first_of here) wrote kind → IsFaultAt thread have begun here tree_read (told_at have thread.count kind) kind
    misfit_read w e wrote count read thread have begun More goes_on is = more (past thread have here goes_on is.0) (omega arith)
    misfit_read w e wrote count read thread have begun Sources goes_on is =
        sources (record { address = address; size = size; locked = locked }) v list rest is.0 refl refl (rw read at is.1)
    misfit_read w e wrote count read thread have begun Wide goes_on is =
        let too : HasSources size list × (256 ^ size ≤ v) = rw read at is.1 in wide v is.0 (list, rest, refl, too.0) too.1
    misfit_read w e wrote count read thread have begun Split goes_on is =
        let fits : HasSources size list × (v < 256 ^ size) = rw read at is.1 in
        split_read w e thread have begun is.0 fits.0 fits.1 (omega (arith, is.2, count))
    misfit_read w e wrote count read thread have begun Values goes_on is = absurd is.1
    misfit_read w e wrote count read thread have begun Early goes_on is = absurd is.1
    misfit_read w e wrote count read thread have begun Left goes_on is = absurd is.1
    misfit_read w e wrote count read thread have begun OtherEnd goes_on is = absurd is.1
    misfit_read w e wrote count read thread have begun Steps goes_on is = absurd is.1

    advance_read : (w : Option ℕ) → w ≡ new v → Advance s.at here tree_read (lines w) (fence_choice (made_by w)) (next_state set (to v) s)
    advance_read None e = record {
      state = thread_after set (to v) t;
      shows = next_shown s t set (to v) shows;
      comes = λ step start is n fits comes. comes_read None e step start is n fits.1 comes;
      counts = refl;
      at_once = λ some. (omega arith, tt);
      takes = λ fits. (rest, (list, refl, fits.0), refl);
      taken = omega arith;
      alone = omega arith;
      misfit = misfit_read None e (lines None) refl refl;
    }
    advance_read (Some x) e = record {
      state = thread_after set (to v) t;
      shows = next_shown s t set (to v) shows;
      comes = λ step start is n fits comes. comes_read (Some x) e step start is n fits.1 comes;
      counts = refl;
      at_once = λ some. (omega arith, (omega arith, tt));
      takes = λ fits. (rest, (list, refl, fits.0), (rest, refl, refl));
      taken = omega arith;
      alone = omega arith;
      misfit = misfit_read (Some x) e (lines (Some x)) refl refl;
    }

  leads_reading : (locked : Bool) (address size : ℕ) (new : ℕ → Option ℕ) (to : ℕ → Done) (left : List Given)
      → Leads s.at left (Acts (256 ^ size) (λ v. access Read locked s.at address size v ∷ locked_write s.at address size (new v)) (λ v. Gives (Goes (thread_after set (to v) t))))
      (shown set s (Acts (256 ^ size) (λ v. access Read locked s.at address size v ∷ locked_write s.at address size (new v)) (λ v. Gives (Goes (to v)))) (read_value (first_of left)) (input_value (first_of left)))
  leads_reading locked address size new to [] = record { range = _; make = _; next = _; same = refl; missing = tt; some = omega arith }
  leads_reading locked address size new to (given.Input v ∷ rest) = record { range = _; make = _; next = _; same = refl; missing = tt; some = omega arith }
  leads_reading locked address size new to (given.Read v list ∷ rest) = advance_read locked address size new to v list rest (new v) refl

  -- an input
  leads_taking : (to : ℕ → Done) (left : List Given) → IfSome (input_value (first_of left)) (λ v. v < 2 ^ 64)
      → Leads s.at left (Acts (2 ^ 64) (λ v. items.Input (record { value = v; place = s.at }) ∷ []) (λ v. Gives (Goes (thread_after set (to v) t))))
      (shown set s (Acts (2 ^ 64) (λ v. items.Input (record { value = v; place = s.at }) ∷ []) (λ v. Gives (Goes (to v)))) (read_value (first_of left)) (input_value (first_of left)))
  leads_taking to [] small = record { range = _; make = _; next = _; same = refl; missing = tt; some = omega arith }
  leads_taking to (given.Read v list ∷ rest) small = record { range = _; make = _; next = _; same = refl; missing = tt; some = omega arith }
  leads_taking to (given.Input v ∷ rest) small = record {
    state = thread_after set (to v) t;
    shows = next_shown s t set (to v) shows;
    comes = λ step start is n fits comes. at-state (past-act v small comes);
    counts = refl;
    at_once = λ some. (omega arith, tt);
    takes = λ fits. (rest, refl, refl);
    taken = omega arith;
    alone = omega arith;
    misfit = misfit_there;
  }
    where
      misfit_there : (thread : GivenThread) (have begun : ℕ) (kind : ReplayKind) → GoesOn thread have (given.Input v ∷ rest)
          → IsMisfit have thread.count (first_of (given.Input v ∷ rest)) (record { input = Some v; output = None; read = None; write = None; fence = false }) kind
          → IsFaultAt thread have begun (given.Input v ∷ rest) (Acts (2 ^ 64) (λ v. items.Input (record { value = v; place = s.at }) ∷ []) (λ v. Gives (Goes (thread_after set (to v) t)))) (told_at have thread.count kind) kind
      misfit_there thread have begun More goes_on is = more (past thread have (given.Input v ∷ rest) goes_on is.0) (omega arith)
      misfit_there thread have begun Split goes_on is = absurd (omega (arith, is.0, is.2))
      misfit_there thread have begun Sources goes_on is = absurd is.1
      misfit_there thread have begun Wide goes_on is = absurd is.1
      misfit_there thread have begun Values goes_on is = absurd is.1
      misfit_there thread have begun Early goes_on is = absurd is.1
      misfit_there thread have begun Left goes_on is = absurd is.1
      misfit_there thread have begun OtherEnd goes_on is = absurd is.1
      misfit_there thread have begun Steps goes_on is = absurd is.1

  -- an item on which no value from outside bears
  misfit_fixed : (item : Item) (d : Done) (wrote : RowItems) → wrote.read ≡ None → count_in wrote ≡ counted (item ∷ []) → count_in wrote ≤ 1
      → (left : List Given) (thread : GivenThread) (have begun : ℕ) (kind : ReplayKind) → GoesOn thread have left
      → IsMisfit have thread.count (first_of left) wrote kind
      → IsFaultAt thread have begun left (Acts 1 (λ v. item ∷ []) (λ v. Gives (Goes (thread_after set d t)))) (told_at have thread.count kind) kind
  misfit_fixed item d wrote no_read count few left thread have begun More goes_on is = more (past thread have left goes_on is.0) (omega (arith, is.1, count))
  misfit_fixed item d wrote no_read count few left thread have begun Split goes_on is = absurd (omega (arith, is.0, is.2, few))
  misfit_fixed item d wrote no_read count few left thread have begun Sources goes_on is = let impossible : ⊥ = rw no_read at is.1 in absurd impossible
  misfit_fixed item d wrote no_read count few left thread have begun Wide goes_on is = let impossible : ⊥ = rw no_read at is.1 in absurd impossible
  misfit_fixed item d wrote no_read count few left thread have begun Values goes_on is = absurd is.1
  misfit_fixed item d wrote no_read count few left thread have begun Early goes_on is = absurd is.1
  misfit_fixed item d wrote no_read count few left thread have begun Left goes_on is = absurd is.1
  misfit_fixed item d wrote no_read count few left thread have begun OtherEnd goes_on is = absurd is.1
  misfit_fixed item d wrote no_read count few left thread have begun Steps goes_on is = absurd is.1

  leads_fixed : (item : Item) (d : Done) (left : List Given) (wrote : RowItems) (fence : FenceChoice)
      → listed s.at wrote fence ≡ item ∷ [] → wrote.read ≡ None → wrote.input ≡ None → count_in wrote ≡ counted (item ∷ []) → count_in wrote ≤ 1 → Takes (item ∷ []) left left
      → Advance s.at left (Acts 1 (λ v. item ∷ []) (λ v. Gives (Goes (thread_after set d t)))) wrote fence (next_state set d s)
  leads_fixed item d left wrote fence is_listed no_read no_input count few takes = record {
    state = thread_after set d t;
    shows = next_shown s t set d shows;
    comes = λ step start is n fits comes. items_at (is ++ (item ∷ [])) (is ++ listed s.at wrote fence) n (ap (λ l. is ++ l) (sym is_listed)) (at-state (past-act 0 (omega arith) comes));
    counts = ap counted is_listed ∙ sym count;
    at_once = λ some. subst EndsAtOnce (sym is_listed) (omega (arith, some, count), tt);
    takes = λ fits.
        let zero_taken : one wrote.read + one wrote.input ≡ 0 = omega (arith, ap one no_read, ap one no_input) in
        subst (λ l. Takes l left (drop (one wrote.read + one wrote.input) left)) (sym is_listed) (subst (λ m. Takes (item ∷ []) left (drop m left)) (sym zero_taken) takes);
    taken = omega (arith, ap one no_read, ap one no_input);
    alone = omega (arith, ap one no_read, ap one no_input);
    misfit = misfit_fixed item d wrote no_read count few left;
  }

  pub leads : (tree : Tree (Next Done)) (left : List Given) → IfSome (input_value (first_of left)) (λ v. v < 2 ^ 64) → RowShape s.at tree
      → Leads s.at left (tree then on) (shown set s tree (read_value (first_of left)) (input_value (first_of left)))
  leads tree left small (only (Goes d)) = quiet left d
  leads tree left small (only (Stops end)) = refl
  leads tree left small (reading locked address size new to) = leads_reading locked address size new to left
  leads tree left small (taking to) = leads_taking to left small
  leads tree left small (writing address size value to) =
      leads_fixed (access Write false s.at address size value) to left (row_items (access Write false s.at address size value ∷ [])) choices.None refl refl refl refl (omega arith) (left, refl, refl)
  leads tree left small (fencing kind to) =
      leads_fixed (items.Fence (record { kind = kind; place = s.at })) to left no_items (choices.Dmb kind) refl refl refl refl (omega arith) (left, refl, refl)
  leads tree left small (putting value to) =
      leads_fixed (items.Output (record { value = value; place = s.at })) to left (record no_items { output = Some value }) choices.None refl refl refl refl (omega arith) (left, refl, refl)
