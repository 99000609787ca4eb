-- Fields say one thing.
use Rattle.std.proofs.Common.{◌≡◌, ℕ, ◌+◌, ◌*◌, get_or, List, [], ◌∷◌, codes, refl, sym, ap, subst, ◌∙◌, arith}
use Rattle.std.specs.List.{AllZip}
use Rattle.ev_graph.specs.declared.events.End.{End}
use Rattle.ev_graph.specs.declared.events.End.TheVariants.{Running, Halted, Trap}
use Rattle.ev_graph.specs.declared.events.EventId.{EventId}
use Rattle.ev_graph.specs.declared.events.TrapKind.TheVariants.{BadAccess, Divide, Invalid, BadReturn, BadJump}
use Rattle.ev_graph.specs.declared.execution.Source.{Source}
use Rattle.ev_graph.specs.declared.execution.Source.TheVariants.{Start, From}
use Rattle.ev_graph.specs.declared.execution.Stack.{Stack}
use Rattle.exec_text.specs.declared.exec_file.Given.{Given}
use Rattle.exec_text.specs.declared.exec_file.Given.TheVariants as given
use Rattle.exec_text.specs.declared.exec_file.GivenThread.{GivenThread}
use Rattle.exec_text.specs.declared.lines.Word.{Word}
use Rattle.exec_text.specs.declared.lines.Word.TheVariants as word
use Rattle.exec_text.specs.Parts.{parts_at}
use Rattle.exec_text.specs.Numbers.{IsNumber, IsDecimal, IsHex}
use Rattle.exec_text.specs.Events.{IsEvent, IsSource, IsSources}
use Rattle.exec_text.specs.Lines.{spelled, IsEndWord, IsStack, IsThread, IsRead, IsInput, IsGiven}

-- a relation of texts and what they say, of which each text says one thing at most
abbrev pub SaysOne : {A B : Type 0} → (A → B → Type 0) → Type 0
SaysOne {A} {B} Says = (text : A) (x y : B) → Says text x → Says text y → x ≡ y

pub one_number : (radix most : ℕ) → SaysOne (IsNumber radix most)
one_number radix most text x y first second = first.value ∙ sym second.value

-- the same of two texts that are one
at_same : {A B : Type 0} (Says : A → B → Type 0) → SaysOne Says → (text other : A) (x y : B) → text ≡ other → Says text x → Says other y → x ≡ y
at_same {A} {B} Says one text other x y same first second = let At : A → Type 0 = λ t. Says t y in one text x y first (subst At (sym same) second)

pub one_event : SaysOne IsEvent
one_event text x y first second =
    let thread : first.thread ≡ second.thread = cc (first.parts, second.parts) in
    let index : first.index ≡ second.index = cc (first.parts, second.parts) in
    ap {B = EventId} (λ (t : ℕ). record { thread = t; index = x.index }) (at_same IsDecimal (one_number 10 10) first.thread second.thread x.thread y.thread thread first.is_thread second.is_thread)
    ∙ ap {B = EventId} (λ (k : ℕ). record { thread = y.thread; index = k }) (at_same IsDecimal (one_number 10 10) first.index second.index x.index y.index index first.is_index second.is_index)

start_is_no_event : (text : List ℕ) (e : EventId) → text ≡ codes "init" → IsEvent text e → ⊥
start_is_no_event text e start says =
    let parts : parts_at 46 (codes "init") ≡ says.thread ∷ says.index ∷ [] = ap {B = List (List ℕ)} (λ (t : List ℕ). parts_at 46 t) (sym start) ∙ says.parts in cc

pub one_source : SaysOne IsSource
one_source text Start Start first second = refl
one_source text Start (From e) first second = absurd (start_is_no_event text e first second)
one_source text (From e) Start first second = absurd (start_is_no_event text e second first)
one_source text (From e) (From f) first second = ap {B = Source} (λ (x : EventId). From x) (one_event text e f first second)

pub one_list : {A B : Type 0} (Says : A → B → Type 0) → SaysOne Says → SaysOne (AllZip Says)
one_list Says one [] [] [] first second = refl
one_list Says one [] [] (y ∷ ys) first second = absurd second
one_list Says one [] (x ∷ xs) ys first second = absurd first
one_list Says one (t ∷ ts) [] ys first second = absurd first
one_list Says one (t ∷ ts) (x ∷ xs) [] first second = absurd second
one_list {A} {B} Says one (t ∷ ts) (x ∷ xs) (y ∷ ys) first second =
    ap {B = List B} (λ (z : B). z ∷ xs) (one t x y first.0 second.0) ∙ ap {B = List B} (λ (zs : List B). y ∷ zs) (one_list Says one ts xs ys first.1 second.1)

pub one_sources : SaysOne IsSources
one_sources text xs ys first second = one_list IsSource one_source (parts_at 44 text) xs ys first.0 second.0

-- two letters tell the words apart
abbrev two_letters : List ℕ → ℕ
two_letters word = get_or word 0 0 + 1000 * get_or word 3 0

one_end : SaysOne IsEndWord
one_end text Running Running first second = refl
one_end text Halted Halted first second = refl
one_end text (Trap BadAccess) (Trap BadAccess) first second = refl
one_end text (Trap Divide) (Trap Divide) first second = refl
one_end text (Trap Invalid) (Trap Invalid) first second = refl
one_end text (Trap BadReturn) (Trap BadReturn) first second = refl
one_end text (Trap BadJump) end first second = absurd (first.1 refl)
one_end text end (Trap BadJump) first second = absurd (second.1 refl)
one_end text _ _ first second = absurd (omega (arith, ap {B = ℕ} two_letters (sym first.0 ∙ second.0)))

pub one_word : (v w : Word) → spelled v ≡ spelled w → v ≡ w
one_word word.Title word.Title same = refl
one_word word.Stack word.Stack same = refl
one_word word.Thread word.Thread same = refl
one_word word.Read word.Read same = refl
one_word word.Input word.Input same = refl
one_word word.Order word.Order same = refl
one_word word.End word.End same = refl
one_word _ _ same = absurd (omega (arith, ap {B = ℕ} two_letters same))

pub one_stack : (number : ℕ) → SaysOne (IsStack number)
one_stack number fields x y first second =
    let lo : first.lo ≡ second.lo = cc (first.fields_are, second.fields_are) in
    let hi : first.hi ≡ second.hi = cc (first.fields_are, second.fields_are) in
    ap {B = Stack} (λ (n : ℕ). record { lo = n; hi = x.hi }) (at_same IsHex (one_number 16 16) first.lo second.lo x.lo y.lo lo first.is_lo second.is_lo)
    ∙ ap {B = Stack} (λ (n : ℕ). record { lo = y.lo; hi = n }) (at_same IsHex (one_number 16 16) first.hi second.hi x.hi y.hi hi first.is_hi second.is_hi)

pub one_thread : (number : ℕ) → SaysOne (IsThread number)
one_thread number fields x y first second =
    let count : first.count ≡ second.count = cc (first.fields_are, second.fields_are) in
    let end : first.end ≡ second.end = cc (first.fields_are, second.fields_are) in
    ap {B = GivenThread} (λ (n : ℕ). record { count = n; end = x.end; values = x.values }) (at_same IsDecimal (one_number 10 10) first.count second.count x.count y.count count first.is_count second.is_count)
    ∙ ap {B = GivenThread} (λ (e : End). record { count = y.count; end = e; values = x.values }) (at_same IsEndWord one_end first.end second.end x.end y.end end first.is_end second.is_end)
    ∙ ap {B = GivenThread} (λ (vs : List Given). record { count = y.count; end = y.end; values = vs }) (first.no_values ∙ sym second.no_values)

one_read : (fields : List (List ℕ)) (v w : ℕ) (xs ys : List Source) → IsRead fields v xs → IsRead fields w ys → given.Read v xs ≡ given.Read w ys
one_read fields v w xs ys first second =
    let number : first.number ≡ second.number = cc (first.fields_are, second.fields_are) in
    let list : first.list ≡ second.list = cc (first.fields_are, second.fields_are) in
    ap {B = Given} (λ (n : ℕ). given.Read n xs) (at_same IsHex (one_number 16 16) first.number second.number v w number first.is_value second.is_value)
    ∙ ap {B = Given} (λ (zs : List Source). given.Read w zs) (at_same IsSources one_sources first.list second.list xs ys list first.is_list second.is_list)

one_input : (fields : List (List ℕ)) (v w : ℕ) → IsInput fields v → IsInput fields w → given.Input v ≡ given.Input w
one_input fields v w first second =
    let number : first.number ≡ second.number = cc (first.fields_are, second.fields_are) in
    ap {B = Given} (λ (n : ℕ). given.Input n) (at_same IsHex (one_number 16 16) first.number second.number v w number first.is_value second.is_value)

pub one_given : (w : Word) → SaysOne (IsGiven w)
one_given word.Read fields (given.Read v xs) (given.Read w ys) first second = one_read fields v w xs ys first second
one_given word.Read fields (given.Read v xs) (given.Input w) first second = absurd second
one_given word.Read fields (given.Input v) y first second = absurd first
one_given word.Input fields (given.Input v) (given.Input w) first second = one_input fields v w first second
one_given word.Input fields (given.Input v) (given.Read w ys) first second = absurd second
one_given word.Input fields (given.Read v xs) y first second = absurd first
one_given _ fields x y first second = absurd first
