-- The store that refuses one call.
use Rattle.std.specs.Prelude.{◌≡◌, ℕ, ◌-◌, Bool, true, false, ◌&&◌, ◌==◌, if◌then◌else◌}
use Rattle.zarr_array_meaning.specs.StoreMaps.{counted}
use Rattle.zarr_array_storage.specs.Calls as call
use Rattle.zarr_array_storage.specs.Calls.{Call, IsRefusedWith}
use Rattle.zarr_array_storage.specs.declared.error.StorageError.TheVariants.{Io}
use Rattle.zarr_array_storage.specs.declared.refusing_store.CallKind.{CallKind}
use Rattle.zarr_array_storage.specs.declared.refusing_store.CallKind.TheVariants.{Read, Write}
use Rattle.zarr_array_storage.specs.declared.refusing_store.Countdown.{Countdown}
use Rattle.zarr_array_storage.specs.declared.refusing_store.RefusingStore.{RefusingStore}

-- whether two kinds of calls are the same
abbrev pub same_kind : CallKind → CallKind → Bool
same_kind Read Read = true
same_kind Read Write = false
same_kind Write Read = false
same_kind Write Write = true

-- whether the next call, if it is of this kind, is the one that is refused
abbrev pub refuses_next : Countdown → CallKind → Bool
refuses_next countdown kind = same_kind countdown.kind kind && countdown.left == 1

-- the countdown after a call of this kind: one less, if it counts these and has not come to its end
abbrev pub after_call : Countdown → CallKind → Countdown
after_call countdown kind = if same_kind countdown.kind kind then record countdown { left = countdown.left - 1 } else countdown

-- the store to which the other calls are handed on
abbrev pub inner_of : {S : Type 0} → RefusingStore S → S
inner_of store = store.inner

-- which call is refused
abbrev pub countdown_of : {S : Type 0} → RefusingStore S → Countdown
countdown_of store = store.countdown

-- how many calls were refused before they reached the inner store
abbrev pub own_refused : {S : Type 0} → RefusingStore S → ℕ
own_refused store = store.refused

-- how many calls were refused before they reached the inner store, after a call of this kind
abbrev pub own_refused_after : {S : Type 0} → RefusingStore S → CallKind → ℕ
own_refused_after store kind = if refuses_next (countdown_of store) kind then counted (own_refused store) 1 else own_refused store

-- which kind a call is of
abbrev pub kind_of : Call → CallKind
kind_of (call.get key answer) = Read
kind_of (call.get_partial key ranges answer) = Read
kind_of (call.size_key key answer) = Read
kind_of (call.list answer) = Read
kind_of (call.set key value answer) = Write
kind_of (call.set_partial key patches answer) = Write
kind_of (call.erase key answer) = Write

-- a call was counted; the one that is refused answers `Io`, and the inner store stays as it was; every other was made of the inner store, once and with this answer
pub record HandsOn {S : Type 0} (calls : S → Call → S → Type 0) (old : RefusingStore S) (made : Call) (new : RefusingStore S) : Type 0 where
  pub countdown : countdown_of new ≡ after_call (countdown_of old) (kind_of made)
  pub count : own_refused new ≡ own_refused_after old (kind_of made)
  pub refused : refuses_next (countdown_of old) (kind_of made) ≡ true → IsRefusedWith made Io × (inner_of new ≡ inner_of old)
  pub handed : refuses_next (countdown_of old) (kind_of made) ≡ false → calls (inner_of old) made (inner_of new)
