-- What holds of each row by its shape.
use Rattle.std.proofs.Common.{◌≡◌, ℕ, ◌+◌, ◌*◌, ◌^◌, ◌%◌, ◌<◌, ◌&&◌, Bool, true, false, List, [], ◌∷◌, ◌++◌, Option, Some, None, refl, sym, ap, ◌∙◌, subst, append_assoc, lit<, arith}
use Rattle.std.specs.Prelude.{if◌then◌else◌}
use Rattle.std.proofs.Math.Nat.{one-le-pow}
use Rattle.std.proofs.lemmas.Nat.{mod_below, mod-mul-add}
use Rattle.ev_graph.specs.declared.events.FenceKind.TheVariants.{Mfence}
use Rattle.ev_graph.specs.declared.events.Item.{Item}
use Rattle.ev_graph.specs.declared.events.Item.TheVariants as items
use Rattle.ev_graph.specs.declared.events.AccessKind.TheVariants as kinds
use Rattle.ev_graph.specs.declared.events.TrapKind.TheVariants.{BadAccess}
use Rattle.ev_graph.specs.declared.events.End.TheVariants.{Trap}
use Rattle.ev_graph.specs.declared.rows.RowItems.{RowItems}
use Rattle.behavior.specs.Tree.{Gives, Begins, Acts, At, Path, gives, begins, acts, Next, Goes, Stops}
use Rattle.behavior.specs.Acts.{Permission, goes, traps, access, makes, fences_at, takes_in, puts_out, locked_write}
use Rattle.x64_syntax.specs.declared.slots.SlotKind.{SlotKind}
use Rattle.x64_syntax.specs.declared.slots.SlotKind.TheVariants.{Read, Write, Locked}
use Rattle.x64_table.specs.Rows.{Exit, Row, row_of}
use Rattle.x64_table.specs.Slots.{slots_made}
use Rattle.x64_table.specs.Answers.{Answer, Done, Given, given, answer, no_items, with_items, with_value}
use Rattle.x64_table.specs.Laws.{RowsMakeSlots, RowsRun, RowsRunOnly, HasGiven, listed, slot_kinds}
use Rattle.x64_table.proofs.Shapes.{Shape, ends, still, fence, read, write, change, lock, call-in, call-out, jump-in, jump-out, row_shape}

-- ---- acts of rows, whatever the permission is

module _ (place : ℕ) where
  abbrev pub reading : (address size : ℕ) → (ℕ → Row) → Row
  reading address size go = Acts (256 ^ size) (λ v. access kinds.Read false place address size v ∷ []) go

  abbrev pub locking : (address size : ℕ) → (ℕ → Option ℕ) → (ℕ → Row) → Row
  locking address size new go = Acts (256 ^ size) (λ v. access kinds.Read true place address size v ∷ locked_write place address size (new v)) go

  abbrev pub writing : (address size value : ℕ) → Row → Row
  writing address size value go = makes (access kinds.Write false place address size (value % 256 ^ size)) go

-- an access where it is allowed
abbrev pub when : Bool → Row → Row
when b row = if b then row else traps BadAccess

-- ---- runs to the end

-- what each run to the end makes and how it leaves, after some items
abbrev pub AllRuns : (List Item → Next Exit → Type 0) → List Item → Row → Type 0
AllRuns P so_far (Gives next) = P so_far next
AllRuns P so_far (Begins t) = AllRuns P so_far t
AllRuns P so_far (Acts range made next) = (v : ℕ) → v < range → AllRuns P (so_far ++ made v) (next v)

pub each_run : (P : List Item → Next Exit → Type 0) (so_far : List Item) {row : Row} {made : List Item} {next : Next Exit} {n : ℕ} → AllRuns P so_far row → Path row made (At next) n → P (so_far ++ made) next
each_run P so_far {next = next} all gives = subst (λ made. P made next) (nothing_more so_far) all
  where
    nothing_more : (xs : List Item) → xs ≡ xs ++ []
    nothing_more [] = refl
    nothing_more (x ∷ xs) = ap (λ ys. x ∷ ys) (nothing_more xs)
each_run P so_far all (begins path) = each_run P so_far all path
each_run P so_far {next = next} all (acts {made = act} {items = rest} v lt path) =
    subst (λ made. P made next) (append_assoc so_far (act v) rest) (each_run P (so_far ++ act v) (all v lt) path)

-- ---- slots

-- a run that goes on has made these slots
abbrev SlotsAre : List SlotKind → List Item → Next Exit → Type 0
SlotsAre slots made (Goes exit) = slots_made made ≡ slots
SlotsAre slots made (Stops end) = Unit {0}

slots_if : {slots : List SlotKind} (made : List Item) (next : Next Exit) → slots_made made ≡ slots → SlotsAre slots made next
slots_if made (Goes exit) here = here
slots_if made (Stops end) here = tt

-- a choice of an access that is allowed or not
slots_when : (b : Bool) (slots : List SlotKind) (row : Row) (so_far : List Item) → AllRuns (SlotsAre slots) so_far row → AllRuns (SlotsAre slots) so_far (when b row)
slots_when true slots row so_far here = here
slots_when false slots row so_far here = tt

lock_slots : (written : Option ℕ) (place address size v : ℕ) → slots_made (access kinds.Read true place address size v ∷ locked_write place address size written) ≡ Locked ∷ []
lock_slots None place address size v = refl
lock_slots (Some w) place address size v = refl

shape_slots : {may : Permission} {place : ℕ} {row : Row} {slots : List SlotKind} {fenced : Bool} → Shape may place row slots fenced → AllRuns (SlotsAre slots) [] row
shape_slots ends = tt
shape_slots (still {next = next}) = slots_if [] next refl
shape_slots fence = λ v lt. refl
shape_slots {may} {place} (read address size next) =
    slots_when (may false address size) (Read ∷ []) (reading place address size (λ v. Gives (next v))) [] (λ v lt. slots_if (access kinds.Read false place address size v ∷ []) (next v) refl)
shape_slots {may} {place} (write address size value exit) =
    slots_when (may true address size) (Write ∷ []) (writing place address size value (goes exit)) [] (λ v lt. refl)
shape_slots {may} {place} (change address size address' size' value exit) =
    slots_when (may false address size) (Read ∷ Write ∷ []) (reading place address size (λ v. when (may true address' size') (writing place address' size' (value v) (goes (exit v))))) []
    (λ v lt. slots_when (may true address' size') (Read ∷ Write ∷ []) (writing place address' size' (value v) (goes (exit v))) (access kinds.Read false place address size v ∷ []) (λ u less. refl))
shape_slots {may} {place} (lock address size new exit) =
    slots_when (may false address size && may true address size) (Locked ∷ []) (locking place address size new (λ v. goes (exit v))) [] (λ v lt. lock_slots (new v) place address size v)
shape_slots {may} {place} (call-in address size value exit) =
    slots_when (may true address size) (Write ∷ []) (writing place address size value (takes_in place (λ v. goes (exit v)))) [] (λ v lt u less. refl)
shape_slots {may} {place} (call-out address size value output exit) =
    slots_when (may true address size) (Write ∷ []) (writing place address size value (puts_out place output (goes exit))) [] (λ v lt u less. refl)
shape_slots {may} {place} (jump-in address size exit) = λ v lt.
    slots_when (may false address size) (Read ∷ []) (reading place address size (λ w. goes (exit v w))) (items.Input (record { value = v; place = place }) ∷ []) (λ w less. refl)
shape_slots {may} {place} (jump-out address size output exit) = λ v lt.
    slots_when (may false address size) (Read ∷ []) (reading place address size (λ w. goes (exit w))) (items.Output (record { value = output; place = place }) ∷ []) (λ w less. refl)

pub rows_slots : RowsMakeSlots
rows_slots may i length f s formed made exit n path = each_run (SlotsAre (slot_kinds i f)) [] (shape_slots (row_shape may i length f s formed)) path

-- ---- runs are answered

-- a run of the row is what the interpreter answers on the run's values
abbrev Answered : Row → List Item → Next Exit → Type 0
Answered row made next = (g : Given) → HasGiven g (with_items no_items made) → answer g no_items row ≡ Done (with_items no_items made) next

-- a value that is given and fits
valued : (r : Option ℕ) (v range : ℕ) (missing : Answer) (by : ℕ → Answer) → r ≡ Some v → v < range → with_value r missing (λ u. by (u % range)) ≡ by v
valued r v range missing by here fits =
    let whole : v ≡ 0 * range + v = omega arith in
    ap (λ r. with_value r missing (λ u. by (u % range))) here ∙ ap by (ap (λ m. m % range) whole ∙ mod-mul-add 0 range v fits)

module _ (place : ℕ) where
  -- items of rows
  abbrev read_item : (address size : ℕ) → ℕ → Item
  read_item address size v = access kinds.Read false place address size v

  abbrev lock_items : (address size : ℕ) → Option ℕ → ℕ → List Item
  lock_items address size written v = access kinds.Read true place address size v ∷ locked_write place address size written

  abbrev write_item : (address size : ℕ) → ℕ → Item
  write_item address size v = access kinds.Write false place address size (v % 256 ^ size)

  abbrev in_item : ℕ → Item
  in_item v = items.Input (record { value = v; place = place })

  abbrev out_item : ℕ → Item
  out_item v = items.Output (record { value = v; place = place })

  -- each run to the end is answered
  abbrev EachAnswered : Row → Type 0
  EachAnswered row = AllRuns (Answered row) [] row

  read_answered : (b : Bool) (address size : ℕ) (next : ℕ → Next Exit) → EachAnswered (when b (reading place address size (λ v. Gives (next v))))
  unfolding answer
  read_answered true address size next = λ v lt g here. valued g.read v (256 ^ size) _ (λ u. Done (with_items no_items (read_item address size u ∷ [])) (next u)) here.read lt
  read_answered false address size next = λ g here. refl

  write_answered : (b : Bool) (address size value : ℕ) (exit : Exit) → EachAnswered (when b (writing place address size value (goes exit)))
  unfolding answer
  write_answered true address size value exit = λ v lt g here. refl
  write_answered false address size value exit = λ g here. refl

  change_answered : (b c : Bool) (address size address' size' : ℕ) (value : ℕ → ℕ) (exit : ℕ → Exit)
      → EachAnswered (when b (reading place address size (λ v. when c (writing place address' size' (value v) (goes (exit v))))))
  unfolding answer
  change_answered true true address size address' size' value exit = λ v lt u less g here.
      valued g.read v (256 ^ size) _ (λ x. Done (with_items no_items (read_item address size x ∷ write_item address' size' (value x) ∷ [])) (Goes (exit x))) here.read lt
  change_answered true false address size address' size' value exit = λ v lt g here.
      valued g.read v (256 ^ size) _ (λ x. Done (with_items no_items (read_item address size x ∷ [])) (Stops (Trap BadAccess))) here.read lt
  change_answered false c address size address' size' value exit = λ g here. refl

  -- the write of a locked pair hides nothing of its read
  locked_given : (written : Option ℕ) (address size v : ℕ) (g : Given) → HasGiven g (with_items no_items (lock_items address size written v)) → g.read ≡ Some v
  locked_given None address size v g here = here.read
  locked_given (Some w) address size v g here = here.read

  lock_answered : (b : Bool) (address size : ℕ) (new : ℕ → Option ℕ) (exit : ℕ → Exit) → EachAnswered (when b (locking place address size new (λ v. goes (exit v))))
  unfolding answer
  lock_answered true address size new exit = λ v lt g here.
      valued g.read v (256 ^ size) _ (λ x. Done (with_items no_items (lock_items address size (new x) x)) (Goes (exit x))) (locked_given (new v) address size v g here) lt
  lock_answered false address size new exit = λ g here. refl

  call_in_answered : (b : Bool) (address size value : ℕ) (exit : ℕ → Exit) → EachAnswered (when b (writing place address size value (takes_in place (λ v. goes (exit v)))))
  unfolding answer
  call_in_answered true address size value exit = λ u less v lt g here.
      valued g.input v (2 ^ 64) _ (λ x. Done (with_items no_items (write_item address size value ∷ in_item x ∷ [])) (Goes (exit x))) here.input lt
  call_in_answered false address size value exit = λ g here. refl

  call_out_answered : (b : Bool) (address size value output : ℕ) (exit : Exit) → EachAnswered (when b (writing place address size value (puts_out place output (goes exit))))
  unfolding answer
  call_out_answered true address size value output exit = λ u less v lt g here. refl
  call_out_answered false address size value output exit = λ g here. refl

  jump_in_answered : (b : Bool) (address size : ℕ) (exit : ℕ → ℕ → Exit) → EachAnswered (takes_in place (λ v. when b (reading place address size (λ w. goes (exit v w)))))
  unfolding answer
  jump_in_answered true address size exit = λ v lt w less g here.
      valued g.input v (2 ^ 64) _ (λ x. answer g (with_items no_items (in_item x ∷ [])) (reading place address size (λ w. goes (exit x w)))) here.input lt
      ∙ valued g.read w (256 ^ size) _ (λ y. Done (with_items no_items (in_item v ∷ read_item address size y ∷ [])) (Goes (exit v y))) here.read less
  jump_in_answered false address size exit = λ v lt g here.
      valued g.input v (2 ^ 64) _ (λ x. Done (with_items no_items (in_item x ∷ [])) (Stops (Trap BadAccess))) here.input lt

  jump_out_answered : (b : Bool) (address size output : ℕ) (exit : ℕ → Exit) → EachAnswered (puts_out place output (when b (reading place address size (λ w. goes (exit w)))))
  unfolding answer
  jump_out_answered true address size output exit = λ u less v lt g here.
      valued g.read v (256 ^ size) _ (λ x. Done (with_items no_items (out_item output ∷ read_item address size x ∷ [])) (Goes (exit x))) here.read lt
  jump_out_answered false address size output exit = λ u less g here. refl

  still_answered : (next : Next Exit) → EachAnswered (Gives next)
  unfolding answer
  still_answered next = λ g here. refl

  fence_answered : (exit : Exit) → EachAnswered (fences_at Mfence place (goes exit))
  unfolding answer
  fence_answered exit = λ v lt g here. refl

shape_answered : {may : Permission} {place : ℕ} {row : Row} {slots : List SlotKind} {fenced : Bool} → Shape may place row slots fenced → AllRuns (Answered row) [] row
shape_answered {may} {place} (ends {end = end}) = still_answered place (Stops end)
shape_answered {may} {place} (still {next = next}) = still_answered place next
shape_answered {may} {place} (fence {exit = exit}) = fence_answered place exit
shape_answered {may} {place} (read address size next) = read_answered place (may false address size) address size next
shape_answered {may} {place} (write address size value exit) = write_answered place (may true address size) address size value exit
shape_answered {may} {place} (change address size address' size' value exit) = change_answered place (may false address size) (may true address' size') address size address' size' value exit
shape_answered {may} {place} (lock address size new exit) = lock_answered place (may false address size && may true address size) address size new exit
shape_answered {may} {place} (call-in address size value exit) = call_in_answered place (may true address size) address size value exit
shape_answered {may} {place} (call-out address size value output exit) = call_out_answered place (may true address size) address size value output exit
shape_answered {may} {place} (jump-in address size exit) = jump_in_answered place (may false address size) address size exit
shape_answered {may} {place} (jump-out address size output exit) = jump_out_answered place (may false address size) address size output exit

pub rows_run_holds : RowsRun
rows_run_holds may i length f s formed g made next n path here =
    each_run (Answered (row_of may i length f s)) [] (shape_answered (row_shape may i length f s formed)) path g here

-- ---- answers are runs

-- where the row is done, it is a run of the row
abbrev OnDone : Answer → (RowItems → Next Exit → Type 0) → Type 0
OnDone (Done made next) P = P made next
OnDone _ P = Unit {0}

pub positive : (size : ℕ) → 0 < 256 ^ size
positive size = one-le-pow size 256 (lit< tt)

module _ (place : ℕ) where
  abbrev Only : Row → Given → Type 0
  Only row g = OnDone (answer g no_items row) (λ made next. Path row (listed place made) (At next) 0)

  -- a value that is given, cut to its size, fits
  fits : (v size : ℕ) → v % 256 ^ size < 256 ^ size
  fits v size = mod_below v (256 ^ size) (positive size)

  fits_in : (v : ℕ) → v % 2 ^ 64 < 2 ^ 64
  fits_in v = mod_below v (2 ^ 64) (lit< tt)

  read_only : (b : Bool) (address size : ℕ) (next : ℕ → Next Exit) (r i : Option ℕ) → Only (when b (reading place address size (λ v. Gives (next v)))) (given r i)
  unfolding answer
  read_only true address size next None i = tt
  read_only true address size next (Some v) i = acts (v % 256 ^ size) (fits v size) gives
  read_only false address size next r i = gives

  write_only : (b : Bool) (address size value : ℕ) (exit : Exit) (g : Given) → Only (when b (writing place address size value (goes exit))) g
  unfolding answer
  write_only true address size value exit g = acts 0 (lit< tt) gives
  write_only false address size value exit g = gives

  change_only : (b c : Bool) (address size address' size' : ℕ) (value : ℕ → ℕ) (exit : ℕ → Exit) (r i : Option ℕ)
      → Only (when b (reading place address size (λ v. when c (writing place address' size' (value v) (goes (exit v)))))) (given r i)
  unfolding answer
  change_only true c address size address' size' value exit None i = tt
  change_only true true address size address' size' value exit (Some v) i = acts (v % 256 ^ size) (fits v size) (acts 0 (lit< tt) gives)
  change_only true false address size address' size' value exit (Some v) i = acts (v % 256 ^ size) (fits v size) gives
  change_only false c address size address' size' value exit r i = gives

  lock_listed : (written : Option ℕ) (address size v : ℕ) → listed place (with_items no_items (lock_items place address size written v)) ≡ lock_items place address size written v ++ []
  lock_listed None address size v = refl
  lock_listed (Some w) address size v = refl

  lock_only : (b : Bool) (address size : ℕ) (new : ℕ → Option ℕ) (exit : ℕ → Exit) (r i : Option ℕ) → Only (when b (locking place address size new (λ v. goes (exit v)))) (given r i)
  unfolding answer
  lock_only true address size new exit None i = tt
  lock_only true address size new exit (Some v) i =
      let u : ℕ = v % 256 ^ size in
      subst (λ made. Path (locking place address size new (λ v. goes (exit v))) made (At (Goes (exit u))) 0) (sym (lock_listed (new u) address size u)) (acts u (fits v size) gives)
  lock_only false address size new exit r i = gives

  call_in_only : (b : Bool) (address size value : ℕ) (exit : ℕ → Exit) (r i : Option ℕ) → Only (when b (writing place address size value (takes_in place (λ v. goes (exit v))))) (given r i)
  unfolding answer
  call_in_only true address size value exit r None = tt
  call_in_only true address size value exit r (Some v) = acts 0 (lit< tt) (acts (v % 2 ^ 64) (fits_in v) gives)
  call_in_only false address size value exit r i = gives

  call_out_only : (b : Bool) (address size value output : ℕ) (exit : Exit) (g : Given) → Only (when b (writing place address size value (puts_out place output (goes exit)))) g
  unfolding answer
  call_out_only true address size value output exit g = acts 0 (lit< tt) (acts 0 (lit< tt) gives)
  call_out_only false address size value output exit g = gives

  jump_in_only : (b : Bool) (address size : ℕ) (exit : ℕ → ℕ → Exit) (r i : Option ℕ) → Only (takes_in place (λ v. when b (reading place address size (λ w. goes (exit v w))))) (given r i)
  unfolding answer
  jump_in_only true address size exit None None = tt
  jump_in_only true address size exit None (Some v) = tt
  jump_in_only true address size exit (Some w) None = tt
  jump_in_only true address size exit (Some w) (Some v) = acts (v % 2 ^ 64) (fits_in v) (acts (w % 256 ^ size) (fits w size) gives)
  jump_in_only false address size exit r None = tt
  jump_in_only false address size exit r (Some v) = acts (v % 2 ^ 64) (fits_in v) gives

  jump_out_only : (b : Bool) (address size output : ℕ) (exit : ℕ → Exit) (r i : Option ℕ) → Only (puts_out place output (when b (reading place address size (λ w. goes (exit w))))) (given r i)
  unfolding answer
  jump_out_only true address size output exit None i = tt
  jump_out_only true address size output exit (Some v) i = acts 0 (lit< tt) (acts (v % 256 ^ size) (fits v size) gives)
  jump_out_only false address size output exit r i = acts 0 (lit< tt) gives

  still_only : (next : Next Exit) (g : Given) → Only (Gives next) g
  unfolding answer
  still_only next g = gives

  fence_only : (exit : Exit) (g : Given) → Only (fences_at Mfence place (goes exit)) g
  unfolding answer
  fence_only exit g = acts 0 (lit< tt) gives

shape_only : {may : Permission} {place : ℕ} {row : Row} {slots : List SlotKind} {fenced : Bool} → Shape may place row slots fenced → (g : Given) → Only place row g
shape_only {may} {place} (ends {end = end}) g = still_only place (Stops end) g
shape_only {may} {place} (still {next = next}) g = still_only place next g
shape_only {may} {place} (fence {exit = exit}) g = fence_only place exit g
shape_only {may} {place} (read address size next) g = read_only place (may false address size) address size next g.read g.input
shape_only {may} {place} (write address size value exit) g = write_only place (may true address size) address size value exit g
shape_only {may} {place} (change address size address' size' value exit) g = change_only place (may false address size) (may true address' size') address size address' size' value exit g.read g.input
shape_only {may} {place} (lock address size new exit) g = lock_only place (may false address size && may true address size) address size new exit g.read g.input
shape_only {may} {place} (call-in address size value exit) g = call_in_only place (may true address size) address size value exit g.read g.input
shape_only {may} {place} (call-out address size value output exit) g = call_out_only place (may true address size) address size value output exit g
shape_only {may} {place} (jump-in address size exit) g = jump_in_only place (may false address size) address size exit g.read g.input
shape_only {may} {place} (jump-out address size output exit) g = jump_out_only place (may false address size) address size output exit g.read g.input

pub rows_run_only_holds : RowsRunOnly
rows_run_only_holds may i length f s formed g made next here =
    let row : Row = row_of may i length f s in
    subst (λ a. OnDone a (λ made next. Path row (listed s.at made) (At next) 0)) here (shape_only (row_shape may i length f s formed) g)
