-- Which value each row wants, and when.
use Rattle.std.proofs.Common.{◌≡◌, ℕ, suc, zero, ◌<◌, ◌&&◌, Bool, true, false, List, [], ◌∷◌, ◌++◌, Option, Some, None, refl, sym, ap, ◌∙◌, subst, lit<, arith, length}
use Rattle.std.specs.Prelude.{if◌then◌else◌, IfSome, slice_index_or}
use Rattle.std.specs.List.{AllByRecursion}
use Rattle.ev_graph.specs.declared.events.FenceKind.TheVariants.{Mfence}
use Rattle.ev_graph.specs.declared.events.Access.{Access}
use Rattle.ev_graph.specs.declared.events.AccessKind.{AccessKind}
use Rattle.ev_graph.specs.declared.events.AccessKind.TheVariants as kinds
use Rattle.ev_graph.specs.declared.events.Item.{Item}
use Rattle.ev_graph.specs.declared.events.Item.TheVariants as items
use Rattle.ev_graph.specs.declared.rows.Wanted.{Wanted}
use Rattle.behavior.specs.Tree.{Gives, Point, Cut, Path, cut, gives, begins, acts, Next, Stops}
use Rattle.behavior.specs.Acts.{Permission, goes, fences_at, takes_in, puts_out, locked_write}
use Rattle.behavior.proofs.Makes.{AllMakes}
use Rattle.x64_syntax.specs.declared.slots.SlotKind.{SlotKind}
use Rattle.x64_table.specs.Rows.{Exit, Row, row_of}
use Rattle.x64_table.specs.Answers.{Answer, WantsRead, WantsInput, Done, Given, given, answer, no_items}
use Rattle.x64_table.specs.Laws.{Makes, MakesRead, TakesAnInput, WantsExactly, RowsWant}
use Rattle.x64_table.proofs.Shapes.{Shape, ends, still, fence, read, write, change, lock, call-in, call-out, jump-in, jump-out, row_shape}
use Rattle.x64_table.proofs.ShapeLemmas.{reading, locking, writing, when, positive}

-- ---- what an answer asks for

data Kind : Type 0 where
  AsksRead : Wanted → Kind
  AsksInput : Kind
  AsksNothing : Kind

abbrev kind : Answer → Kind
kind (WantsRead w) = AsksRead w
kind WantsInput = AsksInput
kind (Done made next) = AsksNothing

abbrev expected_input : (takes : Bool) → Option ℕ → Kind
expected_input true None = AsksInput
expected_input true (Some v) = AsksNothing
expected_input false i = AsksNothing

-- what is asked for by a row that reads so, where it reads, and takes an input, where it does
abbrev expected : Option Wanted → (takes : Bool) → (r i : Option ℕ) → Kind
expected (Some w) takes None i = AsksRead w
expected (Some w) takes (Some v) i = expected_input takes i
expected None takes r i = expected_input takes i

abbrev read_of_kind : Kind → Option Wanted
read_of_kind (AsksRead w) = Some w
read_of_kind AsksInput = None
read_of_kind AsksNothing = None

kind_read : (a : Answer) (w : Wanted) → kind a ≡ AsksRead w → a ≡ WantsRead w
kind_read (WantsRead x) w e = ap back (ap read_of_kind e)
  where
    back : Option Wanted → Answer
    back None = WantsInput
    back (Some w) = WantsRead w
kind_read WantsInput w e = absurd cc
kind_read (Done made next) w e = absurd cc

kind_input : (a : Answer) → kind a ≡ AsksInput → a ≡ WantsInput
kind_input (WantsRead x) e = absurd cc
kind_input WantsInput e = refl
kind_input (Done made next) e = absurd cc

expected_read : (w : Option Wanted) (takes : Bool) (r i : Option ℕ) (x : Wanted) → expected w takes r i ≡ AsksRead x → (r ≡ None) × (w ≡ Some x)
expected_read (Some y) takes None i x e = (refl, ap read_of_kind e)
expected_read (Some y) true (Some v) None x e = absurd cc
expected_read (Some y) true (Some v) (Some u) x e = absurd cc
expected_read (Some y) false (Some v) i x e = absurd cc
expected_read None true r None x e = absurd cc
expected_read None true r (Some u) x e = absurd cc
expected_read None false r i x e = absurd cc

expected_takes : (w : Option Wanted) (takes : Bool) (r i : Option ℕ) → expected w takes r i ≡ AsksInput → (i ≡ None) × (takes ≡ true)
expected_takes (Some y) takes None i e = absurd cc
expected_takes (Some y) true (Some v) None e = (refl, refl)
expected_takes (Some y) true (Some v) (Some u) e = absurd cc
expected_takes (Some y) false (Some v) i e = absurd cc
expected_takes None true r None e = (refl, refl)
expected_takes None true r (Some u) e = absurd cc
expected_takes None false r i e = absurd cc

-- an input that is missing is asked for unless a read is
missing_input : (w : Option Wanted) (r : Option ℕ) → ((x : Wanted) → expected w true r None ≡ AsksRead x → ⊥) → expected w true r None ≡ AsksInput
missing_input (Some y) None never = absurd (never y refl)
missing_input (Some y) (Some v) never = refl
missing_input None r never = refl

input_is_no_read : (x : Wanted) → WantsInput ≡ WantsRead x → ⊥
input_is_no_read x e = cc

-- ---- what the items of a row are

-- a read is this one, and an input comes only where the row takes one
abbrev access_asked : AccessKind → Option Wanted → Access → Type 0
access_asked kinds.Read w a = w ≡ Some (record { address = a.address; size = a.size; locked = a.locked })
access_asked kinds.Write w a = Unit {0}

abbrev IsAsked : Option Wanted → Bool → Item → Type 0
IsAsked w takes (items.Access a) = access_asked a.kind w a
IsAsked w takes (items.Fence f) = Unit {0}
IsAsked w takes (items.Input t) = takes ≡ true
IsAsked w takes (items.Output t) = Unit {0}

all_joined : (P : Item → Type 0) (xs ys : List Item) → AllByRecursion P xs → AllByRecursion P ys → AllByRecursion P (xs ++ ys)
all_joined P [] ys first second = second
all_joined P (x ∷ xs) ys first second = (first.0, all_joined P xs ys first.1 second)

-- what holds of each item that a row can make holds of those of its runs, cut or not
pub path_items : (P : Item → Type 0) {row : Row} {made : List Item} {p : Point (Next Exit)} {n : ℕ} → AllMakes P row → Path row made p n → AllByRecursion P made
path_items P all cut = tt
path_items P all gives = tt
path_items P all (begins path) = path_items P all path
path_items P all (acts {made = act} {items = rest} v lt path) = all_joined P (act v) rest (all v lt).0 (path_items P (all v lt).1 path)

contained : (P : Item → Type 0) (xs : List Item) (x : Item) (k : ℕ) → AllByRecursion P xs → k < length xs → slice_index_or xs k x ≡ x → P x
contained P [] x k all below here = absurd (omega (arith, below))
contained P (y ∷ ys) x zero all below here = subst P here all.0
contained P (y ∷ ys) x (suc k) all below here = contained P ys x k all.1 (omega (arith, below)) here

made_has : (P : Item → Type 0) (row : Row) (x : Item) → AllMakes P row → Makes row x → P x
made_has P row x all makes = contained P makes.0 x makes.4.0 (path_items P all makes.3) makes.4.1 makes.4.2

-- ---- rows by what they ask for

-- the row takes an input, where it is to
abbrev TakesIf : Bool → Row → Type 0
TakesIf true row = TakesAnInput row
TakesIf false row = Unit {0}

record Asks (row : Row) (w : Option Wanted) (takes : Bool) : Type 0 where
  answers : (r i : Option ℕ) → kind (answer (given r i) no_items row) ≡ expected w takes r i
  only : AllMakes (IsAsked w takes) row
  reads : IfSome w (MakesRead row)
  inputs : TakesIf takes row

abbrev Asked : Row → Type 0
Asked row = (w : Option Wanted) × (takes : Bool) × Asks row w takes

read_is : (w : Option Wanted) (row : Row) (takes : Bool) (x : Wanted) → AllMakes (IsAsked w takes) row → MakesRead row x → w ≡ Some x
read_is w row takes x all makes =
    let a : Access = makes.0 in
    let here : access_asked a.kind w a = made_has (IsAsked w takes) row (items.Access a) all makes.5 in
    subst (λ k. access_asked k w a) makes.1 here
    ∙ ap (λ n. Some (record { address = n; size = a.size; locked = a.locked })) makes.2
    ∙ ap (λ n. Some (record { address = x.address; size = n; locked = a.locked })) makes.3
    ∙ ap (λ b. Some (record { address = x.address; size = x.size; locked = b })) makes.4

wants_exactly : (row : Row) (g : Given) → Asked row → WantsExactly row g
wants_exactly row g (w, takes, asks) = record {
  read = λ x. (to_read x, from_read x);
  input = (to_input, from_input);
}
  where
    at : kind (answer g no_items row) ≡ expected w takes g.read g.input
    at = asks.answers g.read g.input

    to_read : (x : Wanted) → answer g no_items row ≡ WantsRead x → (g.read ≡ None) × MakesRead row x
    to_read x e =
        let both = expected_read w takes g.read g.input x (sym at ∙ ap kind e) in
        (both.0, subst (λ o. IfSome o (MakesRead row)) both.1 asks.reads)

    from_read : (x : Wanted) → (g.read ≡ None) × MakesRead row x → answer g no_items row ≡ WantsRead x
    from_read x (none, makes) =
        kind_read (answer g no_items row) x (at ∙ ap (λ o. expected o takes g.read g.input) (read_is w row takes x asks.only makes) ∙ ap (λ r. expected (Some x) takes r g.input) none)

    to_input : answer g no_items row ≡ WantsInput → (g.input ≡ None) × TakesAnInput row × ((x : Wanted) → answer g no_items row ≡ WantsRead x → ⊥)
    to_input e =
        let both = expected_takes w takes g.read g.input (sym at ∙ ap kind e) in
        (both.0, subst (λ b. TakesIf b row) both.1 asks.inputs, (λ x e'. input_is_no_read x (sym e ∙ e')))

    from_input : (g.input ≡ None) × TakesAnInput row × ((x : Wanted) → answer g no_items row ≡ WantsRead x → ⊥) → answer g no_items row ≡ WantsInput
    from_input (none, makes, never) =
        let set : takes ≡ true = made_has (IsAsked w takes) row (items.Input (record { value = makes.0; place = makes.1 })) asks.only makes.2 in
        let whole : expected w takes g.read g.input ≡ expected w true g.read None = ap (λ b. expected w b g.read g.input) set ∙ ap (expected w true g.read) none in
        kind_input (answer g no_items row) (at ∙ whole ∙ missing_input w g.read (λ x e. never x (kind_read (answer g no_items row) x (at ∙ whole ∙ e))))

-- ---- each shape

-- the runs that show what a row makes begin so
module _ (place : ℕ) where
  abbrev read_item : (locked : Bool) (address size : ℕ) → Access
  read_item locked address size = record { id = record { thread = 0; index = 0 }; kind = kinds.Read; locked = locked; address = address; size = size; value = 0; place = place }

  abbrev this : (locked : Bool) (address size : ℕ) → Wanted
  this locked address size = record { address = address; size = size; locked = locked }

  still_asks : (next : Next Exit) → Asked (Gives next)
  unfolding answer
  still_asks next = (None, false, record { answers = λ r i. refl; only = tt; reads = tt; inputs = tt })

  fence_asks : (exit : Exit) → Asked (fences_at Mfence place (goes exit))
  unfolding answer
  fence_asks exit = (None, false, record { answers = λ r i. refl; only = λ v lt. ((tt, tt), tt); reads = tt; inputs = tt })

  reading_answers : (address size : ℕ) (next : ℕ → Next Exit) (r i : Option ℕ) → kind (answer (given r i) no_items (reading place address size (λ v. Gives (next v)))) ≡ expected (Some (this false address size)) false r i
  unfolding answer
  reading_answers address size next None i = refl
  reading_answers address size next (Some v) i = refl

  read_asks : (b : Bool) (address size : ℕ) (next : ℕ → Next Exit) → Asked (when b (reading place address size (λ v. Gives (next v))))
  unfolding answer
  read_asks true address size next = (
    Some (this false address size),
    false,
    record {
      answers = reading_answers address size next;
      only = λ v lt. ((refl, tt), tt);
      reads = (read_item false address size, refl, refl, refl, refl, (items.Access (read_item false address size) ∷ [], Cut, 0, acts 0 (positive size) cut, (0, lit< tt, refl)));
      inputs = tt;
    },
  )
  read_asks false address size next = (None, false, record { answers = λ r i. refl; only = tt; reads = tt; inputs = tt })

  write_asks : (b : Bool) (address size value : ℕ) (exit : Exit) → Asked (when b (writing place address size value (goes exit)))
  unfolding answer
  write_asks true address size value exit = (None, false, record { answers = λ r i. refl; only = λ v lt. ((tt, tt), tt); reads = tt; inputs = tt })
  write_asks false address size value exit = (None, false, record { answers = λ r i. refl; only = tt; reads = tt; inputs = tt })

  changing_answers : (c : Bool) (address size address' size' : ℕ) (value : ℕ → ℕ) (exit : ℕ → Exit) (r i : Option ℕ)
      → kind (answer (given r i) no_items (reading place address size (λ v. when c (writing place address' size' (value v) (goes (exit v)))))) ≡ expected (Some (this false address size)) false r i
  unfolding answer
  changing_answers c address size address' size' value exit None i = refl
  changing_answers true address size address' size' value exit (Some v) i = refl
  changing_answers false address size address' size' value exit (Some v) i = refl

  changing_only : (c : Bool) (w : Option Wanted) (address size value : ℕ) (exit : Exit) → AllMakes (IsAsked w false) (when c (writing place address size value (goes exit)))
  changing_only true w address size value exit = λ v lt. ((tt, tt), tt)
  changing_only false w address size value exit = tt

  change_asks : (b c : Bool) (address size address' size' : ℕ) (value : ℕ → ℕ) (exit : ℕ → Exit)
      → Asked (when b (reading place address size (λ v. when c (writing place address' size' (value v) (goes (exit v))))))
  unfolding answer
  change_asks true c address size address' size' value exit = (
    Some (this false address size),
    false,
    record {
      answers = changing_answers c address size address' size' value exit;
      only = λ v lt. ((refl, tt), changing_only c (Some (this false address size)) address' size' (value v) (exit v));
      reads = (read_item false address size, refl, refl, refl, refl, (items.Access (read_item false address size) ∷ [], Cut, 0, acts 0 (positive size) cut, (0, lit< tt, refl)));
      inputs = tt;
    },
  )
  change_asks false c address size address' size' value exit = (None, false, record { answers = λ r i. refl; only = tt; reads = tt; inputs = tt })

  locking_answers : (address size : ℕ) (new : ℕ → Option ℕ) (exit : ℕ → Exit) (r i : Option ℕ) → kind (answer (given r i) no_items (locking place address size new (λ v. goes (exit v)))) ≡ expected (Some (this true address size)) false r i
  unfolding answer
  locking_answers address size new exit None i = refl
  locking_answers address size new exit (Some v) i = refl

  locked_only : (w : Option Wanted) (written : Option ℕ) (address size : ℕ) → AllByRecursion (IsAsked w false) (locked_write place address size written)
  locked_only w None address size = tt
  locked_only w (Some v) address size = (tt, tt)

  lock_asks : (b : Bool) (address size : ℕ) (new : ℕ → Option ℕ) (exit : ℕ → Exit) → Asked (when b (locking place address size new (λ v. goes (exit v))))
  unfolding answer
  lock_asks true address size new exit = (
    Some (this true address size),
    false,
    record {
      answers = locking_answers address size new exit;
      only = λ v lt. ((refl, locked_only (Some (this true address size)) (new v) address size), tt);
      reads = (read_item true address size, refl, refl, refl, refl, (items.Access (read_item true address size) ∷ locked_write place address size (new 0) ++ [], Cut, 0, acts 0 (positive size) cut, (0, omega arith, refl)));
      inputs = tt;
    },
  )
  lock_asks false address size new exit = (None, false, record { answers = λ r i. refl; only = tt; reads = tt; inputs = tt })

  calling_answers : (address size value : ℕ) (exit : ℕ → Exit) (r i : Option ℕ) → kind (answer (given r i) no_items (writing place address size value (takes_in place (λ v. goes (exit v))))) ≡ expected None true r i
  unfolding answer
  calling_answers address size value exit r None = refl
  calling_answers address size value exit r (Some v) = refl

  call_in_asks : (b : Bool) (address size value : ℕ) (exit : ℕ → Exit) → Asked (when b (writing place address size value (takes_in place (λ v. goes (exit v)))))
  unfolding answer
  call_in_asks true address size value exit = (
    None,
    true,
    record {
      answers = calling_answers address size value exit;
      only = λ v lt. ((tt, tt), λ u less. ((refl, tt), tt));
      reads = tt;
      inputs = (0, place, (_, Cut, 0, acts 0 (lit< tt) (acts 0 (lit< tt) cut), (1, lit< tt, refl)));
    },
  )
  call_in_asks false address size value exit = (None, false, record { answers = λ r i. refl; only = tt; reads = tt; inputs = tt })

  call_out_asks : (b : Bool) (address size value output : ℕ) (exit : Exit) → Asked (when b (writing place address size value (puts_out place output (goes exit))))
  unfolding answer
  call_out_asks true address size value output exit = (None, false, record { answers = λ r i. refl; only = λ v lt. ((tt, tt), λ u less. ((tt, tt), tt)); reads = tt; inputs = tt })
  call_out_asks false address size value output exit = (None, false, record { answers = λ r i. refl; only = tt; reads = tt; inputs = tt })

  jumping_answers : (b : Bool) (address size : ℕ) (exit : ℕ → ℕ → Exit) (r i : Option ℕ)
      → kind (answer (given r i) no_items (takes_in place (λ v. when b (reading place address size (λ w. goes (exit v w)))))) ≡ expected (if b then Some (this false address size) else None) true r i
  unfolding answer
  jumping_answers true address size exit None None = refl
  jumping_answers true address size exit None (Some v) = refl
  jumping_answers true address size exit (Some w) None = refl
  jumping_answers true address size exit (Some w) (Some v) = refl
  jumping_answers false address size exit r None = refl
  jumping_answers false address size exit r (Some v) = refl

  jump_in_asks : (b : Bool) (address size : ℕ) (exit : ℕ → ℕ → Exit) → Asked (takes_in place (λ v. when b (reading place address size (λ w. goes (exit v w)))))
  unfolding answer
  jump_in_asks true address size exit = (
    Some (this false address size),
    true,
    record {
      answers = jumping_answers true address size exit;
      only = λ v lt. ((refl, tt), λ w less. ((refl, tt), tt));
      reads = (read_item false address size, refl, refl, refl, refl, (_, Cut, 0, acts 0 (lit< tt) (acts 0 (positive size) cut), (1, lit< tt, refl)));
      inputs = (0, place, (_, Cut, 0, acts 0 (lit< tt) cut, (0, lit< tt, refl)));
    },
  )
  jump_in_asks false address size exit = (
    None,
    true,
    record {
      answers = jumping_answers false address size exit;
      only = λ v lt. ((refl, tt), tt);
      reads = tt;
      inputs = (0, place, (_, Cut, 0, acts 0 (lit< tt) cut, (0, lit< tt, refl)));
    },
  )

  returning_answers : (address size output : ℕ) (exit : ℕ → Exit) (r i : Option ℕ) → kind (answer (given r i) no_items (puts_out place output (reading place address size (λ w. goes (exit w))))) ≡ expected (Some (this false address size)) false r i
  unfolding answer
  returning_answers address size output exit None i = refl
  returning_answers address size output exit (Some v) i = refl

  jump_out_asks : (b : Bool) (address size output : ℕ) (exit : ℕ → Exit) → Asked (puts_out place output (when b (reading place address size (λ w. goes (exit w)))))
  unfolding answer
  jump_out_asks true address size output exit = (
    Some (this false address size),
    false,
    record {
      answers = returning_answers address size output exit;
      only = λ v lt. ((tt, tt), λ w less. ((refl, tt), tt));
      reads = (read_item false address size, refl, refl, refl, refl, (_, Cut, 0, acts 0 (lit< tt) (acts 0 (positive size) cut), (1, lit< tt, refl)));
      inputs = tt;
    },
  )
  jump_out_asks false address size output exit = (None, false, record { answers = λ r i. refl; only = λ v lt. ((tt, tt), tt); reads = tt; inputs = tt })

shape_asks : {may : Permission} {place : ℕ} {row : Row} {slots : List SlotKind} {fenced : Bool} → Shape may place row slots fenced → Asked row
shape_asks {may} {place} (ends {end = end}) = still_asks place (Stops end)
shape_asks {may} {place} (still {next = next}) = still_asks place next
shape_asks {may} {place} (fence {exit = exit}) = fence_asks place exit
shape_asks {may} {place} (read address size next) = read_asks place (may false address size) address size next
shape_asks {may} {place} (write address size value exit) = write_asks place (may true address size) address size value exit
shape_asks {may} {place} (change address size address' size' value exit) = change_asks place (may false address size) (may true address' size') address size address' size' value exit
shape_asks {may} {place} (lock address size new exit) = lock_asks place (may false address size && may true address size) address size new exit
shape_asks {may} {place} (call-in address size value exit) = call_in_asks place (may true address size) address size value exit
shape_asks {may} {place} (call-out address size value output exit) = call_out_asks place (may true address size) address size value output exit
shape_asks {may} {place} (jump-in address size exit) = jump_in_asks place (may false address size) address size exit
shape_asks {may} {place} (jump-out address size output exit) = jump_out_asks place (may false address size) address size output exit

pub rows_want_holds : RowsWant
rows_want_holds may i length f s formed g = wants_exactly (row_of may i length f s) g (shape_asks (row_shape may i length f s formed))
