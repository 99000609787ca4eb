-- A text has one answer: what it says, or the first line that leaves the grammar.
use Rattle.std.proofs.Common.{◌≡◌, ◌≢◌, ◌⊎◌, inl, inr, ℕ, suc, ◌+◌, List, [], ◌∷◌, ◌++◌, length, Result, Ok, Err, MatchResult, IfOk, IfErr, refl, sym, ap, subst, ◌∙◌}
use Rattle.std.proofs.lemmas.List.{same_from_push}
use Rattle.ev_graph.specs.declared.events.EventId.{EventId}
use Rattle.ev_graph.specs.declared.execution.Stack.{Stack}
use Rattle.exec_text.specs.declared.exec_file.ExecFile.{ExecFile}
use Rattle.exec_text.specs.declared.exec_file.Given.{Given}
use Rattle.exec_text.specs.declared.exec_file.GivenThread.{GivenThread}
use Rattle.exec_text.specs.declared.fault.ReadFault.{ReadFault}
use Rattle.exec_text.specs.declared.fault.ReadFault.TheVariants as read
use Rattle.exec_text.specs.declared.fault.TextFault.{TextFault}
use Rattle.exec_text.specs.declared.fault.TextKind.{TextKind}
use Rattle.exec_text.specs.declared.fault.TextKind.TheVariants.{Shape, Number}
use Rattle.exec_text.specs.declared.lines.Word.{Word}
use Rattle.exec_text.specs.declared.lines.Word.TheVariants as word
use Rattle.exec_text.specs.declared.stage.Stage.{Stage}
use Rattle.exec_text.specs.declared.stage.Stage.TheVariants.{Begun, Stacks, Threads, Ordered, Ended}
use Rattle.exec_text.specs.Events.{IsEvent}
use Rattle.exec_text.specs.Lines.{IsWithin, Next, Rule, spelled, with_value}
use Rattle.exec_text.specs.Reading.{Tells}
use Rattle.exec_text.specs.Texts.{Follows, IsFault, IsFirstFault, IsText, Leaves}
use Rattle.exec_text.proofs.OneReading.{SaysOne, one_event, one_given, one_list, one_stack, one_thread, one_word}

one_rule : (s : Stage) (w : Word) → SaysOne (Rule s w)
one_rule Begun word.Title fields t u first second = first.1 ∙ sym second.1
one_rule (Stacks stacks) word.Stack fields t u first second =
    first.3 ∙ ap {B = Stage} (λ (s : Stack). Stacks (stacks ++ s ∷ [])) (one_stack (length stacks) fields first.1 second.1 first.2 second.2) ∙ sym second.3
one_rule (Stacks stacks) word.Thread fields t u first second =
    first.3 ∙ ap {B = Stage} (λ (x : GivenThread). Threads stacks [] x) (one_thread 0 fields first.1 second.1 first.2 second.2) ∙ sym second.3
one_rule (Threads stacks done x) word.Thread fields t u first second =
    first.3 ∙ ap {B = Stage} (λ (y : GivenThread). Threads stacks (done ++ x ∷ []) y) (one_thread (length done + 1) fields first.1 second.1 first.2 second.2) ∙ sym second.3
one_rule (Threads stacks done x) word.Read fields t u first second =
    first.2 ∙ ap {B = Stage} (λ (v : Given). Threads stacks done (with_value x v)) (one_given word.Read fields first.0 second.0 first.1 second.1) ∙ sym second.2
one_rule (Threads stacks done x) word.Input fields t u first second =
    first.2 ∙ ap {B = Stage} (λ (v : Given). Threads stacks done (with_value x v)) (one_given word.Input fields first.0 second.0 first.1 second.1) ∙ sym second.2
one_rule (Threads stacks done x) word.Order fields t u first second =
    first.3 ∙ ap {B = Stage} (λ (co : List EventId). Ordered (record { stacks = stacks; threads = done ++ x ∷ []; co = co })) (one_list IsEvent one_event fields first.1 second.1 first.2 second.2)
    ∙ sym second.3
one_rule (Ordered file) word.End fields t u first second = first.1 ∙ sym second.1
one_rule _ _ fields t u first second = absurd first

one_next : (s : Stage) → SaysOne (Next s)
one_next s line t u first second =
    let spelling : spelled second.0 ≡ spelled first.0 = cc (first.2, second.2) in
    let fields : second.1 ≡ first.1 = cc (first.2, second.2) in
    let Word' : Word → Type 0 = λ w. Rule s w second.1 u in
    let Fields : List (List ℕ) → Type 0 = λ others. Rule s first.0 others u in
    one_rule s first.0 first.1 t u first.3 (subst Fields fields (subst Word' (one_word second.0 first.0 spelling) second.3))

-- from the same stage on
from_same : (s t : Stage) (lines : List (List ℕ)) (u : Stage) → s ≡ t → Follows s lines u → Follows t lines u
from_same s t lines u same follows = let From : Stage → Type 0 = λ x. Follows x lines u in subst From same follows

one_end : (lines : List (List ℕ)) (s t u : Stage) → Follows s lines t → Follows s lines u → t ≡ u
one_end [] s t u first second = sym first ∙ second
one_end (line ∷ lines) s t u first second =
    one_end lines first.0 t u first.3 (from_same second.0 first.0 lines u (one_next s line second.0 first.0 second.1 first.1) second.3)

-- a line that leaves the grammar may not come within the limits
told_out : (s next : Stage) (line : List ℕ) (kind : TextKind) → Tells {A = Stage} (Next s line) IsWithin (Err kind) → Next s line next → IsWithin next → ⊥
told_out s next line Shape told says within = told next says
told_out s next line Number told says within = told.2 (let Within : Stage → Type 0 = λ t. IsWithin t in subst Within (one_next s line next told.0 says told.1) within)

-- what is left has parts
some_left : (s : Stage) (before rest : List (List ℕ)) (kind : TextKind) → before ++ rest ≡ [] → Leaves s rest kind → ⊥
some_left s [] [] kind none leaves = leaves
some_left s [] (x ∷ xs) kind none leaves = cc
some_left s (b ∷ bs) rest kind none leaves = cc

leaves_here : (s : Stage) (line : List ℕ) (parts : List (List ℕ)) (kind : TextKind) → parts ≢ [] → Leaves s (line ∷ parts) kind → Tells {A = Stage} (Next s line) IsWithin (Err kind)
leaves_here s line [] kind some leaves = absurd (some refl)
leaves_here s line (next ∷ parts) kind some leaves = leaves

-- a stage at which other parts are left
leaves_same : (s t : Stage) (rest others : List (List ℕ)) (kind : TextKind) → s ≡ t → rest ≡ others → Leaves s rest kind → Leaves t others kind
leaves_same s t rest others kind stage parts leaves =
    let At : Stage → Type 0 = λ x. Leaves x others kind in
    let Of : List (List ℕ) → Type 0 = λ xs. Leaves s xs kind in subst At stage (subst Of parts leaves)

whole-ends : (f : ExecFile) (kind : TextKind) → Leaves (Ended f) ([] ∷ []) kind → ⊥
whole-ends f Shape leaves = leaves f refl refl
whole-ends f Number leaves = leaves

has-last : (lines : List (List ℕ)) → lines ++ [] ∷ [] ≢ []
has-last [] e = cc
has-last (l ∷ ls) e = cc

-- a whole text does not leave the grammar
whole_or_fault : (lines before rest : List (List ℕ)) (s stage : Stage) (f : ExecFile) (kind : TextKind) → lines ++ [] ∷ [] ≡ before ++ rest → Follows s lines (Ended f) → Follows s before stage
    → Leaves stage rest kind → ⊥
whole_or_fault [] [] rest s stage f kind same whole so leaves = whole-ends f kind (leaves_same stage (Ended f) rest ([] ∷ []) kind (sym so ∙ whole) (sym same) leaves)
whole_or_fault [] (b ∷ bs) rest s stage f kind same whole so leaves = some_left stage bs rest kind (cc) leaves
whole_or_fault (l ∷ ls) [] rest s stage f kind same whole so leaves =
    let here = leaves_same stage s rest (l ∷ (ls ++ [] ∷ [])) kind (sym so) (sym same) leaves in
    told_out s whole.0 l kind (leaves_here s l (ls ++ [] ∷ []) kind (has-last ls) here) whole.1 whole.2
whole_or_fault (l ∷ ls) (b ∷ bs) rest s stage f kind same whole so leaves =
    let line : b ≡ l = cc in
    let Here : List ℕ → Type 0 = λ x. Next s x so.0 in
    let next : so.0 ≡ whole.0 = one_next s l so.0 whole.0 (subst Here line so.1) whole.1 in
    whole_or_fault ls bs rest whole.0 stage f kind (cc) whole.3 (from_same so.0 whole.0 bs stage next so.3) leaves

one_kind : (s : Stage) (rest : List (List ℕ)) (j k : TextKind) → Leaves s rest j → Leaves s rest k → j ≡ k
one_kind s rest Shape Shape first second = refl
one_kind s rest Number Number first second = refl
one_kind s [] Shape Number first second = absurd first
one_kind s (x ∷ []) Shape Number first second = absurd second
one_kind s (x ∷ y ∷ ys) Shape Number first second = absurd (first second.0 second.1)
one_kind s [] Number Shape first second = absurd first
one_kind s (x ∷ []) Number Shape first second = absurd first
one_kind s (x ∷ y ∷ ys) Number Shape first second = absurd (second first.0 first.1)

-- a line of the one that leaves the grammar, where the other goes on
goes_on : (s stage : Stage) (b : List ℕ) (bs rest others : List (List ℕ)) (j k : TextKind) (last : Stage) → rest ≡ b ∷ (bs ++ others) → s ≡ stage → Leaves stage rest j → Follows s (b ∷ bs) last → Leaves last others k → ⊥
goes_on s stage b bs rest others j k last same here leaves so then' =
    let now = leaves_same stage s rest (b ∷ (bs ++ others)) j (sym here) same leaves in
    told_out s so.0 b j (leaves_here s b (bs ++ others) j (λ none. some_left last bs others k none then') now) so.1 so.2

one_place : (before others rest left : List (List ℕ)) (s t u : Stage) (j k : TextKind) → before ++ rest ≡ others ++ left → Follows s before t → Leaves t rest j → Follows s others u → Leaves u left k
    → (length before ≡ length others) × (j ≡ k)
one_place [] [] rest left s t u j k same so leaves so' leaves' = (refl, one_kind u left j k (leaves_same t u rest left j (sym so ∙ so') same leaves) leaves')
one_place [] (b ∷ bs) rest left s t u j k same so leaves so' leaves' = absurd (goes_on s t b bs rest left j k u same so leaves so' leaves')
one_place (b ∷ bs) [] rest left s t u j k same so leaves so' leaves' = absurd (goes_on s u b bs left rest k j t (sym same) so' leaves' so leaves)
one_place (b ∷ bs) (d ∷ ds) rest left s t u j k same so leaves so' leaves' =
    let line : d ≡ b = cc in
    let Here : List ℕ → Type 0 = λ x. Next s x so'.0 in
    let next : so'.0 ≡ so.0 = one_next s b so'.0 so.0 (subst Here line so'.1) so.1 in
    let more = one_place bs ds rest left so.0 t u j k (cc) so.3 leaves (from_same so'.0 so.0 ds u next so'.3) leaves' in
    (ap {B = ℕ} (λ (n : ℕ). suc n) more.0, more.1)

-- a text says one thing
pub one_text : SaysOne IsText
one_text text f g first second =
    let lines : first.0 ≡ second.0 = (same_from_push first.0 second.0 [] [] (sym first.1 ∙ second.1)).0 in
    let Of : List (List ℕ) → Type 0 = λ ls. Follows Begun ls (Ended g) in
    let end : Ended f ≡ Ended g = one_end first.0 Begun (Ended f) (Ended g) first.2 (subst Of (sym lines) second.2) in cc

-- or leaves the grammar
pub text_or_fault : (text : List ℕ) (f : ExecFile) (fault : TextFault) → IsText text f → IsFirstFault text fault → ⊥
text_or_fault text f fault whole first = whole_or_fault whole.0 first.before first.rest Begun first.stage f fault.kind (sym whole.1 ∙ first.parts) whole.2 first.follows first.leaves

-- first at one line, in one way
pub one_fault : SaysOne IsFirstFault
one_fault text x y first second =
    let same = one_place first.before second.before first.rest second.rest Begun first.stage second.stage x.kind y.kind (sym first.parts ∙ second.parts) first.follows first.leaves second.follows second.leaves in
    let line : x.line ≡ y.line = first.line ∙ ap {B = ℕ} (λ (n : ℕ). n + 1) same.0 ∙ sym second.line in
    ap {B = TextFault} (λ (n : ℕ). record { line = n; kind = x.kind }) line ∙ ap {B = TextFault} (λ (k : TextKind). record { line = y.line; kind = k }) same.1

-- so an answer that is right is the only one
pub only_says : (text : List ℕ) (r : Result ExecFile ReadFault) → IfOk r (IsText text) → IfErr r (IsFault text) → (f : ExecFile) → IsText text f
    → MatchResult r (λ read. read ≡ f) (λ fault. fault ≡ read.NoMemory)
only_says text (Ok g) says fault f whole = one_text text g f says whole
only_says text (Err (read.Text t)) says fault f whole = absurd (text_or_fault text f t whole fault)
only_says text (Err read.NoMemory) says fault f whole = refl

pub only_fault : (text : List ℕ) (r : Result ExecFile ReadFault) → IfOk r (IsText text) → IfErr r (IsFault text) → (t : TextFault) → IsFirstFault text t
    → MatchResult r (λ _. ⊥) (λ fault. (fault ≡ read.Text t) ⊎ (fault ≡ read.NoMemory))
only_fault text (Ok g) says fault t first = text_or_fault text g t says first
only_fault text (Err (read.Text u)) says fault t first = inl (ap {B = ReadFault} (λ (x : TextFault). read.Text x) (one_fault text u t fault first))
only_fault text (Err read.NoMemory) says fault t first = inr refl
