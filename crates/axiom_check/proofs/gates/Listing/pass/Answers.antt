use Rattle.std.proofs.Common.{◌≡◌, ◌+◌, ◌++◌, [], ◌∷◌, ℕ, Some, List, subst, sym, arith, ◌∙◌, ap}
use Rattle.order_models.proofs.LocalLemmas.{never}
use Rattle.axiom_check.specs.Gates.{IsListing}
use Rattle.axiom_check.proofs.GatesLemmas.{pass_access, pass_fence, pass_other}
use Rattle.axiom_check.proofs.gates.Listing.pass.Goals as goal

pub returns-in_ok-push : goal.returns-in_ok-push
returns-in_ok-push c = λ items place here listing.
    let self = c.args.self.now in
    let next : self.count + 1 ≡ c.in_ok-next.next = grind arith in
    let here_access = here ∙ ap Some c.in-Access.is in
    let passed = pass_access c.args.fence items place self.count self.value self.lasts.items c.in-Access.field-0 here_access listing in
    subst (λ (l : List ℕ). IsListing c.args.fence items (place + 1) c.in_ok-next.next self.value l) (sym c.in_ok-push.ensures.items)
    (subst (λ (n : ℕ). IsListing c.args.fence items (place + 1) n self.value (self.lasts.items ++ self.value ∷ [])) next passed)

pub returns-then-is_fence : goal.returns-then-is_fence
returns-then-is_fence c = λ items place here listing.
    let self = c.args.self.now in
    let next : self.count + 1 ≡ c.in_ok-next.next = grind arith in
    let fence = c.is_fence.ensures.0 c.if-is_fence.true in
    let here_fence = here ∙ ap Some fence.1 in
    let passed = pass_fence c.args.fence items place self.count self.value self.lasts.items fence.0 here_fence fence.2 listing in
    subst (λ (n : ℕ). IsListing c.args.fence items (place + 1) self.count n self.lasts.items) next passed

pub returns-else-is_fence : goal.returns-else-is_fence
returns-else-is_fence c = λ items place here listing.
    let self = c.args.self.now in
    pass_other c.args.fence items place self.count self.value self.lasts.items c.args.one.now here
    c.in_default.not-Access (never _ c.is_fence.ensures c.if-is_fence.false) listing
