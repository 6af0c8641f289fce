use Rattle.std.proofs.Common.{◌∙◌, rules, List, ℕ, refl, sym, subst, string_bytes}
use Rattle.std.proofs.lemmas.Bool.{false≢true}
use Rattle.zarr_run_opening.specs.ChunkKeys.{IsChunkKeyAt}
use Rattle.zarr_run_opening.proofs.ChunkKeyLemmas.{none_left}
use Rattle.zarr_run_opening.proofs.TakenLemmas.{reached_parent}
use Rattle.zarr_run_opening.proofs.chunk_keys.is_chunk_key.Goals as goal

pub parent_path-requires : goal.parent_path-requires
parent_path-requires g c = c.loop-parent.invariant.1.node

pub returns-then-branch : goal.returns-then-branch
returns-then-branch g c =
    let P : List ℕ → Type 0 = λ k. IsChunkKeyAt g.B.BytesToBytesCodecTraits.meaning c.args.arrays.now k c.in-Some.parent.now in
    (λ t. record { path = c.in-Some.parent.now; node = c.in-Some.ensures.node_path; at = subst P (c.deref.ensures ∙ c.in_ok-key.ensures) (c.in_ok-is_chunk_at.ensures.0 c.if-branch.true) }, λ k. refl)

pub loop-parent-preserved : goal.loop-parent-preserved
loop-parent-preserved g c =
    let P : List ℕ → Type 0 = λ k. IsChunkKeyAt g.B.BytesToBytesCodecTraits.meaning c.args.arrays.now k c.in-Some.parent.now in (
      search rules,
      reached_parent (IsChunkKeyAt g.B.BytesToBytesCodecTraits.meaning c.args.arrays.now (string_bytes c.in_ok-key.key)) c.args.path.now c.loop-parent.lower.now c.in-Some.parent.now c.loop-parent.invariant.1 c.in-Some.ensures.value c.in-Some.ensures.node_path
          (λ k. false≢true (sym c.if-branch.false ∙ c.in_ok-is_chunk_at.ensures.1 (subst P (sym c.deref.ensures) k))),
    )

pub returns : goal.returns
returns g c = (λ t. absurd (false≢true t), λ k. absurd (none_left g.B.BytesToBytesCodecTraits.meaning c.args.arrays.now (string_bytes c.in_ok-key.key) c.args.path.now c.loop-parent.lower.now c.args.name c.requires c.in_ok-key.ensures c.loop-parent.invariant.1 c.in_default.ensures.value k))
