-- What the shelf and the sink in memory hold.
use Rattle.std.specs.Prelude.{◌≡◌, ℕ, ◌+◌, ◌-◌, ◌^◌, ◌/◌, ◌==◌, Bool, true, false, List, [], ◌∷◌, ◌++◌, length, take, nat_lt, Option, Some, None, option_map, Result, Ok, Err, if◌then◌else◌, suc}
use Rattle.std.specs.List.{list_any}
use Rattle.std.specs.Str.{bytes_eq}
use Rattle.lz_ports.specs.declared.shelf.GetFault.{GetFault}
use Rattle.lz_ports.specs.declared.shelf.GetFault.TheVariants as get
use Rattle.lz_ports.specs.declared.shelf.PutFault.{PutFault}
use Rattle.lz_ports.specs.declared.shelf.PutFault.TheVariants as put
use Rattle.lz_ports.specs.declared.sink.SinkFault.{SinkFault}
use Rattle.lz_ports.specs.declared.sink.SinkFault.TheVariants as sink

-- a file as two lists of bytes
pub record Named : Type 0 where
  pub name : List ℕ
  pub bytes : List ℕ

-- the bytes under a name
abbrev pub file_at : List Named → List ℕ → Option (List ℕ)
file_at [] name = None
file_at (file ∷ files) name = if bytes_eq file.name name then Some file.bytes else file_at files name

-- the files after these bytes were put under a name
abbrev pub with_file : List Named → List ℕ → List ℕ → List Named
with_file [] name bytes = record { name = name; bytes = bytes } ∷ []
with_file (file ∷ files) name bytes =
    if bytes_eq file.name name then record { name = name; bytes = bytes } ∷ files else file ∷ with_file files name bytes

-- the place of the file under a name
abbrev pub place_of : List Named → List ℕ → Option ℕ
place_of [] name = None
place_of (file ∷ files) name = if bytes_eq file.name name then Some 0 else option_map suc (place_of files name)

-- a shelf in memory: its files, the numbers of the calls that fail, and how many calls, failed gets and failed puts there were
pub record ShelfState : Type 0 where
  pub files : List Named
  pub failing : List ℕ
  pub calls : ℕ
  pub get_faults : ℕ
  pub put_faults : ℕ

-- a sink in memory: the bytes that it has taken, the numbers of the calls that fail, and how many calls and faults there were
pub record SinkState : Type 0 where
  pub bytes : List ℕ
  pub failing : List ℕ
  pub calls : ℕ
  pub faults : ℕ

-- the first half, rounded down
abbrev pub first_half : List ℕ → List ℕ
first_half bytes = take (length bytes / 2) bytes

-- How calls are numbered, from 0: none comes after 2 ^ 64 - 1, and the numbers of those that fail are listed.
abbrev pub is_spent : ℕ → Bool
is_spent calls = calls == 2 ^ 64 - 1

abbrev pub is_listed : List ℕ → ℕ → Bool
is_listed failing call = list_any (λ number. number == call) failing

-- the shelf after a call that goes well
abbrev pub shelf_called : ShelfState → ShelfState
shelf_called s = record s { calls = s.calls + 1 }

-- the shelf after a get that fails
abbrev pub get_failed : ShelfState → ShelfState
get_failed s = record s { calls = s.calls + 1; get_faults = s.get_faults + 1 }

-- the shelf after a put that fails
abbrev pub put_failed : ShelfState → ShelfState
put_failed s = record s { calls = s.calls + 1; put_faults = s.put_faults + 1 }

-- the shelf after a put that found no memory: a call that is spent isn't counted, and one that is listed counts as a fault
abbrev pub shelf_counted : ShelfState → ShelfState
shelf_counted s = if is_spent s.calls then s else (if is_listed s.failing s.calls then put_failed s else shelf_called s)

-- what `get` gives of the bytes under the name
abbrev pub given_of : ℕ → Option (List ℕ) → Result (List ℕ) GetFault
given_of limit None = Err get.Failed
given_of limit (Some bytes) = if nat_lt limit (length bytes) then Err get.TooLong else Ok bytes

-- what `get` answers: a call that is spent has no memory, one that is listed or of an absent name fails
abbrev pub get_answer : ShelfState → List ℕ → ℕ → Result (List ℕ) GetFault
get_answer s name limit =
    if is_spent s.calls then Err get.NoMemory else (if is_listed s.failing s.calls then Err get.Failed else given_of limit (file_at s.files name))

-- the shelf after a call looked for these bytes: where there are none it failed
abbrev pub shelf_looked : ShelfState → Option (List ℕ) → ShelfState
shelf_looked s None = get_failed s
shelf_looked s (Some bytes) = shelf_called s

-- the shelf after `get`
abbrev pub after_get : ShelfState → List ℕ → ShelfState
after_get s name =
    if is_spent s.calls then s else (if is_listed s.failing s.calls then get_failed s else shelf_looked s (file_at s.files name))

-- the answer, but for want of memory
abbrev pub IsGot : {V : Type 0} → (V → List ℕ) → Result (List ℕ) GetFault → Result V GetFault → Type 0
IsGot items answer (Ok v) = answer ≡ Ok (items v)
IsGot items answer (Err get.Failed) = answer ≡ Err get.Failed
IsGot items answer (Err get.TooLong) = answer ≡ Err get.TooLong
IsGot items answer (Err get.NoMemory) = Unit {0}

-- the shelf after these bytes were put by a call that is not listed
abbrev pub shelf_put : ShelfState → List ℕ → List ℕ → ShelfState
shelf_put s name bytes = record (shelf_called s) { files = with_file s.files name bytes }

-- the shelf after a listed call: it keeps the first half of the bytes
abbrev pub shelf_torn : ShelfState → List ℕ → List ℕ → ShelfState
shelf_torn s name bytes = record (put_failed s) { files = with_file s.files name (first_half bytes) }

-- what `put` answers and leaves: a call that is spent or finds no memory keeps nothing, and one that is listed fails
abbrev pub IsPutInMemory : ShelfState → List ℕ → List ℕ → ShelfState → Result (Unit {0}) PutFault → Type 0
IsPutInMemory old name bytes new (Ok _) = (is_spent old.calls ≡ false) × (is_listed old.failing old.calls ≡ false) × (new ≡ shelf_put old name bytes)
IsPutInMemory old name bytes new (Err put.Failed) = (is_spent old.calls ≡ false) × (is_listed old.failing old.calls ≡ true) × (new ≡ shelf_torn old name bytes)
IsPutInMemory old name bytes new (Err put.NoMemory) = new ≡ shelf_counted old

-- the sink after a call that goes well
abbrev pub sink_called : SinkState → SinkState
sink_called s = record s { calls = s.calls + 1 }

-- the sink after a call that fails
abbrev pub sink_failed : SinkState → SinkState
sink_failed s = record s { calls = s.calls + 1; faults = s.faults + 1 }

-- the sink after a call that found no memory, counted as that of a shelf
abbrev pub sink_counted : SinkState → SinkState
sink_counted s = if is_spent s.calls then s else (if is_listed s.failing s.calls then sink_failed s else sink_called s)

-- what a write answers and leaves: a call that is spent or finds no memory takes nothing, and one that is listed takes the first half
-- of the bytes and fails
abbrev pub IsTakenInMemory : SinkState → List ℕ → SinkState → Result (Unit {0}) SinkFault → Type 0
IsTakenInMemory old bytes new (Ok _) =
    (is_spent old.calls ≡ false) × (is_listed old.failing old.calls ≡ false) × (new ≡ record (sink_called old) { bytes = old.bytes ++ bytes })
IsTakenInMemory old bytes new (Err sink.Failed) =
    (is_spent old.calls ≡ false) × (is_listed old.failing old.calls ≡ true) × (new ≡ record (sink_failed old) { bytes = old.bytes ++ first_half bytes })
IsTakenInMemory old bytes new (Err sink.NoMemory) = new ≡ sink_counted old
