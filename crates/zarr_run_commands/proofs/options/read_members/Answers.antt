use Rattle.std.proofs.Common.{◌≡◌, ◌-◌, length, Some, None, refl, ◌∙◌, arith}
use Rattle.json.specs.Json.{read_key, value}
use Rattle.json.proofs.Grammar.{read_key-shorter}
use Rattle.serde_json.specs.Data.{put, no_members}
use Rattle.zarr_run_commands.proofs.Turns.{member_read, members_over}
use Rattle.zarr_run_commands.proofs.options.read_members.Goals as goal

pub members-init : goal.members-init
members-init c = (length c.args.reader.now, no_members, grind arith, omega arith, refl, omega arith)

pub members-preserved : goal.members-preserved
members-preserved c =
    let p = value 125 in
    let l = c.members in
    let n = l.invariant.0 in
    let ms = l.invariant.1 in
    let k = c.in-Some.name.now in
    let s = c.next_key.new.self in
    let named : read_key l.reader ≡ Some (Some k, s) = grind arith in
    let done = c.in_ok-read_option.ensures in
    let told = done.read c.args.workers ms l.invariant.2 in
    let r = c.read_option.new.reader in
    let less = read_key-shorter l.reader (Some k) s named in
    let lesser = done.shorter in (
      n - 1,
      put k told.0 ms,
      told.2,
      omega (arith, l.invariant.3),
      l.invariant.4 ∙ member_read p ms n k l.reader s r told.0 (omega (arith, l.invariant.3)) named told.1,
      omega (arith, l.invariant.5),
    )

pub returns-clause-read : goal.returns-clause-read
returns-clause-read c =
    let l = c.members in
    (l.invariant.1, l.invariant.2, l.invariant.4 ∙ members_over (value 125) l.invariant.1 l.invariant.0 l.reader c.next_key.new.self l.invariant.3 (grind arith))

pub returns-clause-shorter : goal.returns-clause-shorter
returns-clause-shorter c =
    let l = c.members in
    let s = c.next_key.new.self in
    let ended : read_key l.reader ≡ Some (None, s) = grind arith in
    let less = read_key-shorter l.reader None s ended in
    omega (arith, less, l.invariant.5)
