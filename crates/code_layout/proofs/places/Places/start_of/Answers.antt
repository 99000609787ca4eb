use Rattle.std.proofs.Common.{◌≡◌, get_or, subst, ap, ◌∙◌}
use Rattle.std.specs.List.Sorted.{IsBinarySearchResult}
use Rattle.std.specs.Ordering.{nat_cmp}
use Rattle.std.specs.Result.{MatchResult}
use Rattle.code_layout.specs.Places.{start_of}
use Rattle.code_layout.proofs.Starts.{start_searched}
use Rattle.code_layout.proofs.places.Places.start_of.Goals as goal

pub returns-in-Ok-clause-value : goal.returns-in-Ok-clause-value
returns-in-Ok-clause-value c =
    let p = c.args.self.now in
    let result = subst (λ l. IsBinarySearchResult (λ y. nat_cmp y c.args.address) l c.binary_search.result) c.as_slice.ensures c.binary_search.ensures.position in
    ap (λ l. get_or l c.in-Ok.place 0) c.as_slice-in-Ok.ensures
    ∙ subst (λ r. MatchResult r (λ i. get_or p.starts i 0 ≡ start_of p c.args.address) (λ i. p.end ≡ start_of p c.args.address)) c.in-Ok.is
    (start_searched p.firsts p.starts p.end c.args.address c.binary_search.result c.requires.sorted c.requires.each result)

pub returns-in-Err-clause-value : goal.returns-in-Err-clause-value
returns-in-Err-clause-value c =
    let p = c.args.self.now in
    let result = subst (λ l. IsBinarySearchResult (λ y. nat_cmp y c.args.address) l c.binary_search.result) c.as_slice.ensures c.binary_search.ensures.position in
    subst (λ r. MatchResult r (λ i. get_or p.starts i 0 ≡ start_of p c.args.address) (λ i. p.end ≡ start_of p c.args.address)) c.in-Err.is
    (start_searched p.firsts p.starts p.end c.args.address c.binary_search.result c.requires.sorted c.requires.each result)
