-- What a caller of this crate cites.
use Rattle.std.proofs.Common.{◌≡◌, ℕ, ◌+◌, ◌≤◌, List, [], ◌∷◌, ◌++◌, length, sym, subst, length-append, arith}
use Rattle.exec_text.specs.declared.exec_file.ExecFile.{ExecFile}
use Rattle.exec_text.specs.declared.fault.TextFault.{TextFault}
use Rattle.exec_text.specs.declared.lines.Word.{Word}
use Rattle.exec_text.specs.declared.lines.Word.TheVariants as word
use Rattle.exec_text.specs.declared.stage.Stage.{Stage}
use Rattle.exec_text.specs.declared.stage.Stage.TheVariants.{Begun, Stacks, Threads, Ordered, Ended}
use Rattle.exec_text.specs.Lines.{IsSmallFile, IsWithin, Rule}
use Rattle.exec_text.specs.Texts.{Follows, IsFirstFault, IsText}
use Rattle.exec_text.proofs.OneAnswer.{one_text, one_fault, text_or_fault}

-- what a text says is the only thing that it says
pub same_file : (text : List ℕ) (f g : ExecFile) → IsText text f → IsText text g → f ≡ g
same_file = one_text

-- it has one first fault at most
pub same_fault : (text : List ℕ) (a b : TextFault) → IsFirstFault text a → IsFirstFault text b → a ≡ b
same_fault = one_fault

-- and none where it says something
pub no_fault : (text : List ℕ) (f : ExecFile) (fault : TextFault) → IsText text f → IsFirstFault text fault → ⊥
no_fault = text_or_fault

within-kept : (lines : List (List ℕ)) (s t : Stage) → Follows s lines t → IsWithin s → IsWithin t
within-kept [] s t follows within = let Within : Stage → Type 0 = λ u. IsWithin u in subst Within follows within
within-kept (line ∷ lines) s t follows within = within-kept lines follows.0 t follows.3 follows.2

-- what a text says is within the limits of counts and events
pub text_is_small : (text : List ℕ) (f : ExecFile) → IsText text f → IsSmallFile f
text_is_small text f whole = within-kept whole.0 Begun (Ended f) whole.2 tt

-- as many threads as stacks, 1 to 16
abbrev pub HasThreads : ExecFile → Type 0
HasThreads f = (length f.threads ≡ length f.stacks) × (1 ≤ length f.stacks) × (length f.stacks ≤ 16)

-- so far no more threads than stacks
abbrev Balanced : Stage → Type 0
Balanced Begun = Unit {0}
Balanced (Stacks stacks) = length stacks ≤ 16
Balanced (Threads stacks done t) = (length done + 1 ≤ length stacks) × (length stacks ≤ 16)
Balanced (Ordered f) = HasThreads f
Balanced (Ended f) = HasThreads f

at-next : (s t : Stage) → t ≡ s → Balanced s → Balanced t
at-next s t same balanced = let At : Stage → Type 0 = λ u. Balanced u in subst At (sym same) balanced

balanced-next : (s : Stage) (w : Word) (fields : List (List ℕ)) (t : Stage) → Rule s w fields t → Balanced s → Balanced t
balanced-next Begun word.Title fields t rule balanced = at-next (Stacks []) t rule.1 (omega arith)
balanced-next (Stacks stacks) word.Stack fields t rule balanced = at-next (Stacks (stacks ++ rule.1 ∷ [])) t rule.3 (omega (arith, rule.0, length-append stacks (rule.1 ∷ [])))
balanced-next (Stacks stacks) word.Thread fields t rule balanced = at-next (Threads stacks [] rule.1) t rule.3 (omega (arith, rule.0), balanced)
balanced-next (Threads stacks done x) word.Thread fields t rule balanced =
    at-next (Threads stacks (done ++ x ∷ []) rule.1) t rule.3 (omega (arith, rule.0, length-append done (x ∷ [])), balanced.1)
balanced-next (Threads stacks done x) word.Read fields t rule balanced = at-next (Threads stacks done _) t rule.2 balanced
balanced-next (Threads stacks done x) word.Input fields t rule balanced = at-next (Threads stacks done _) t rule.2 balanced
balanced-next (Threads stacks done x) word.Order fields t rule balanced =
    at-next (Ordered (record { stacks = stacks; threads = done ++ x ∷ []; co = rule.1 })) t rule.3 (omega (arith, rule.0, length-append done (x ∷ [])), omega (arith, balanced.0), balanced.1)
balanced-next (Ordered f) word.End fields t rule balanced = at-next (Ended f) t rule.1 balanced
balanced-next _ _ fields t rule balanced = absurd rule

balanced-kept : (lines : List (List ℕ)) (s t : Stage) → Follows s lines t → Balanced s → Balanced t
balanced-kept [] s t follows balanced = let At : Stage → Type 0 = λ u. Balanced u in subst At follows balanced
balanced-kept (line ∷ lines) s t follows balanced =
    balanced-kept lines follows.0 t follows.3 (balanced-next s follows.1.0 follows.1.1 follows.0 follows.1.3 balanced)

-- what a text says has as many threads as stacks, 1 to 16
pub text_has_threads : (text : List ℕ) (f : ExecFile) → IsText text f → HasThreads f
text_has_threads text f whole = balanced-kept whole.0 Begun (Ended f) whole.2 tt
