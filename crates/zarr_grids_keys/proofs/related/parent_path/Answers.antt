use Rattle.std.proofs.Common.{◌≡◌, ◌∙◌, ◌<◌, List, ℕ, length, take, None, Some, subst, sym, ap, lit<, rules, arith}
use Rattle.std.specs.List.{between}
use Rattle.std.proofs.Math.Seq.{take-length}
use Rattle.std.proofs.lemmas.Slice.{between_from_start}
use Rattle.std.proofs.lemmas.Str.Pattern.{rfind_char}
use Rattle.zarr_grids_keys.proofs.PathLemmas.{is_node_path-first}
use Rattle.zarr_grids_keys.proofs.ParentLemmas.{IsLastSlash, PassesTests, PassesTests-is, parent_path-first, parent_path-later, is_node_path-take}
use Rattle.zarr_grids_keys.proofs.related.parent_path.Goals as goal

front : (p s : List ℕ) (n : ℕ) → s ≡ between 0 n (take (length p) p) → s ≡ take n p
front p s n e = e ∙ between_from_start (take (length p) p) n ∙ ap (take n) (take-length p)

pub returns-in_err-end-clause-value : goal.returns-in_err-end-clause-value
returns-in_err-end-clause-value c =
    let f = is_node_path-first c.args.path.now c.requires in
    absurd (rfind_char 47 c.args.path.now None c.in_err-end.ensures.cases (lit< tt) 0 f.0 f.1)

pub returns-then-end-eq0-clause-value : goal.returns-then-end-eq0-clause-value
returns-then-end-eq0-clause-value c =
    let h : IsLastSlash c.args.path.now c.in_ok-end.end = rfind_char 47 c.args.path.now (Some c.in_ok-end.end) c.in_ok-end.ensures.cases (lit< tt) in
    parent_path-first c.args.path.now (search rules) (subst (IsLastSlash c.args.path.now) c.if-end-eq0.true h)

pub returns-else-end-eq0-clause-value : goal.returns-else-end-eq0-clause-value
returns-else-end-eq0-clause-value c =
    let h : IsLastSlash c.args.path.now c.in_ok-end.end = rfind_char 47 c.args.path.now (Some c.in_ok-end.end) c.in_ok-end.ensures.cases (lit< tt) in
    let e = front c.args.path.now c.range.result.now c.in_ok-end.end c.range.ensures.value in
    let l : 0 < c.in_ok-end.end = omega arith in
    parent_path-later c.args.path.now c.in_ok-end.end (search rules) l h ∙ ap (λ z. Some z) (sym e)

pub returns-else-end-eq0-clause-node_path : goal.returns-else-end-eq0-clause-node_path
returns-else-end-eq0-clause-node_path c =
    let h : IsLastSlash c.args.path.now c.in_ok-end.end = rfind_char 47 c.args.path.now (Some c.in_ok-end.end) c.in_ok-end.ensures.cases (lit< tt) in
    let e = front c.args.path.now c.range.result.now c.in_ok-end.end c.range.ensures.value in
    let l : 0 < c.in_ok-end.end = omega arith in
    PassesTests-is c.range.result.now (subst PassesTests (sym e) (is_node_path-take c.args.path.now c.in_ok-end.end (search rules) c.requires l h.0 h.1))
