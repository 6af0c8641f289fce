-- How far a run has come, line by line.
use Rattle.std.proofs.Common.{◌≡◌, ℕ, ◌+◌, ◌≤◌, ◌^◌, List, [], ◌∷◌, ◌++◌, length, Option, Some, None, IfSome, Result, Ok, Err, OnOk, refl, sym, ap, ◌∙◌, subst, inl, inr, arith, append_assoc, append-nil, length-append}
use Rattle.std.specs.Io.BufRead.{drop_through}
use Rattle.std.specs.Io.KnownBytes.{Appends, Keeps, append_known}
use Rattle.zarr_run_meaning.specs.Worlds.{World}
use Rattle.zarr_run_lines.specs.Lines.{lines_of, Setting, output, Answers, Leaves, StandsAfterSome, RunsSome, RunsAll, IsWithinLimits}
use Rattle.zarr_run_lines.specs.Reading.{Reader, up_to, IsLeft, TakesLine, HasRead, HasRun}
use Rattle.zarr_run_lines.proofs.LinesLemmas.{lines_of-first, runs-more}

-- ---- the reading

-- a reader gives this line, whatever is left
abbrev pub Takes : Reader → Reader → List ℕ → Type 0
Takes left later line = (rest : List ℕ) → IsLeft left rest → TakesLine left later line rest

-- nothing is left
abbrev pub Ends : Reader → Type 0
Ends left = (rest : List ℕ) → IsLeft left rest → rest ≡ []

all-left : (bytes text : ℕ) → bytes ≡ 4294967296 → text + bytes ≤ 4294967296 + text
all-left bytes text b = omega (arith, b)

pub read-start : (input known : Option (List ℕ)) (bytes lines : ℕ) → bytes ≡ 4294967296 → lines ≡ 1048576
    → ((text : List ℕ) → input ≡ Some text → IsLeft (up_to known 4294967296) text) → HasRead input (up_to known bytes) lines []
read-start input known bytes lines b l start = record {
  number = omega (arith, l);
  first = λ text e. (text, subst (λ n. IsLeft (up_to known n) text) (sym b) (start text e), refl, all-left bytes (length text) b);
}

-- the next line goes from what is left to what was taken
moved : (text rest line : List ℕ) (done : List (List ℕ)) → lines_of text ≡ done ++ lines_of rest → lines_of rest ≡ line ∷ lines_of (drop_through 10 rest)
    → lines_of text ≡ (done ++ line ∷ []) ++ lines_of (drop_through 10 rest)
moved text rest line done split first = split ∙ ap (λ ls. done ++ ls) first ∙ sym (append_assoc done (line ∷ []) (lines_of (drop_through 10 rest)))

next : (left later : Reader) (line rest : List ℕ) → TakesLine left later line rest → lines_of rest ≡ line ∷ lines_of (drop_through 10 rest)
next left later line rest takes = lines_of-first rest takes.some ∙ ap (λ l. l ∷ lines_of (drop_through 10 rest)) (sym takes.first)

one-more : (n lines lines' : ℕ) (done : List (List ℕ)) (line : List ℕ) → n ≡ length (done ++ line ∷ []) → lines' + 1 ≡ lines → length done + lines ≤ 1048576 → n + lines' ≤ 1048576
one-more n lines lines' done line e one h = omega (arith, e ∙ length-append done (line ∷ []), one, h)

fewer : (text rest after bytes bytes' : ℕ) → text + bytes ≤ 4294967296 + rest → rest + bytes' ≡ after + bytes → text + bytes' ≤ 4294967296 + after
fewer text rest after bytes bytes' h e = omega (arith, h, e)

pub read-line : (input : Option (List ℕ)) (left later : Reader) (lines lines' : ℕ) (done : List (List ℕ)) (line : List ℕ)
    → HasRead input left lines done → Takes left later line → lines' + 1 ≡ lines → HasRead input later lines' (done ++ line ∷ [])
read-line input left later lines lines' done line p takes one = record {
  number = one-more _ lines lines' done line refl one p.number;
  first = λ whole e.
      let now = p.first whole e in
      let took = takes now.0 now.1 in
      (drop_through 10 now.0, took.left, moved whole now.0 line done now.2 (next left later line now.0 took), fewer (length whole) (length now.0) (length (drop_through 10 now.0)) left.limit later.limit now.3 took.count);
}

-- the lines are the first of the input
abbrev AreFirst : Option (List ℕ) → List (List ℕ) → Type 0
AreFirst input done = IfSome input (λ text. (rest : List (List ℕ)) × (lines_of text ≡ done ++ rest))

taken-first : (input : Option (List ℕ)) (left : Reader) (lines : ℕ) (done : List (List ℕ)) → HasRead input left lines done → AreFirst input done
taken-first None left lines done p = tt
taken-first (Some text) left lines done p = let now = p.first text refl in (lines_of now.0, now.2)

all-taken : (text rest : List ℕ) (done : List (List ℕ)) → lines_of text ≡ done ++ lines_of rest → rest ≡ [] → lines_of text ≡ done
all-taken text rest done split none = split ∙ ap (λ r. done ++ lines_of r) none ∙ append-nil done

taken-all : (input : Option (List ℕ)) (left : Reader) (lines : ℕ) (done : List (List ℕ)) → HasRead input left lines done → Ends left → IfSome input (λ text. lines_of text ≡ done)
taken-all None left lines done p ends = tt
taken-all (Some text) left lines done p ends = let now = p.first text refl in all-taken text now.0 done now.2 (ends now.0 now.1)

few-bytes : (text rest : List ℕ) (bytes : ℕ) → length text + bytes ≤ 4294967296 + length rest → rest ≡ [] → length text ≤ 2 ^ 32
few-bytes text rest bytes h e = omega (arith, h, ap length e)

few-lines : (text : List ℕ) (done : List (List ℕ)) (lines : ℕ) → lines_of text ≡ done → length done + lines ≤ 1048576 → length (lines_of text) ≤ 2 ^ 20
few-lines text done lines e h = omega (arith, ap length e, h)

pub read-limits : (input : Option (List ℕ)) (left : Reader) (lines : ℕ) (done : List (List ℕ)) → HasRead input left lines done → Ends left → IfSome input IsWithinLimits
read-limits None left lines done p ends = tt
read-limits (Some text) left lines done p ends =
    let now = p.first text refl in
    let none = ends now.0 now.1 in
    (few-bytes text now.0 left.limit now.3 none, few-lines text done lines (all-taken text now.0 done now.2 none) p.number)

-- ---- the runs in a world

none-yet : (before : Option (List ℕ)) (pending : List ℕ) → pending ≡ [] → Appends before (append_known before pending) []
none-yet None pending e = tt
none-yet (Some held) pending e = ap (λ p. held ++ p) e

pub run-start : (setting : Setting) (before : Option (List ℕ)) (pending : List ℕ) (old : World) → pending ≡ [] → HasRun setting [] (output before (append_known before pending)) old old
run-start setting before pending old none = record { out = []; ran = (refl, refl); answers = none-yet before pending none }

more-answers : (before after after' : Option (List ℕ)) (pending pending' pending'' out more : List ℕ) → Appends before (append_known after pending) out → pending' ≡ pending ++ more
    → Keeps (append_known after pending') (append_known after' pending'') → Appends before (append_known after' pending'') (out ++ more)
more-answers None after after' pending pending' pending'' out more grew is kept = tt
more-answers (Some xs) None after' pending pending' pending'' out more grew is kept = absurd grew
more-answers (Some xs) (Some ys) None pending pending' pending'' out more grew is kept = absurd kept
more-answers (Some xs) (Some ys) (Some zs) pending pending' pending'' out more grew is kept =
    kept ∙ ap (λ p. ys ++ p) is ∙ sym (append_assoc ys pending more) ∙ ap (λ l. l ++ more) grew ∙ append_assoc xs out more

pub run-line : (setting : Setting) (done : List (List ℕ)) (before after after' : Option (List ℕ)) (pending pending' pending'' line : List ℕ) (old mid new : World)
    → HasRun setting done (output before (append_known after pending)) old mid → Answers setting line (output (Some pending) (Some pending')) mid new → Keeps (append_known after pending') (append_known after' pending'')
    → HasRun setting (done ++ line ∷ []) (output before (append_known after' pending'')) old new
run-line setting done before after after' pending pending' pending'' line old mid new p (text, step, is) kept = record {
  out = p.out ++ (text ++ 10 ∷ []);
  ran = runs-more setting done old mid new p.out line text p.ran step;
  answers = more-answers before after after' pending pending' pending'' p.out (text ++ 10 ∷ []) p.answers is kept;
}

-- ---- both

-- a line that was answered has run
pub answers-leave : (setting : Setting) (line before after : List ℕ) (old new : World) → Answers setting line (output (Some before) (Some after)) old new → Leaves setting old line new
answers-leave setting line before after old new (text, step, is) = inr (text, step)

-- after a fault before a line
pub stands-before : (setting : Setting) (input : Option (List ℕ)) (left : Reader) (before after : Option (List ℕ)) (lines : ℕ) (done : List (List ℕ)) (old new : World)
    → HasRead input left lines done → HasRun setting done (output before after) old new → StandsAfterSome setting input old new
stands-before setting input left before after lines done old new read run = (done, run.out, run.ran, taken-first input left lines done read)

-- after a fault in a line
pub stands-in : (setting : Setting) (input : Option (List ℕ)) (left later : Reader) (before after : Option (List ℕ)) (lines lines' : ℕ) (done : List (List ℕ)) (line : List ℕ) (old mid new : World)
    → HasRead input left lines done → Takes left later line → lines' + 1 ≡ lines → HasRun setting done (output before after) old mid → Leaves setting mid line new → StandsAfterSome setting input old new
stands-in setting input left later before after lines lines' done line old mid new read takes one run (inl same) =
    subst (λ w. StandsAfterSome setting input old w) (sym same) (stands-before setting input left before after lines done old mid read run)
stands-in setting input left later before after lines lines' done line old mid new read takes one run (inr (text, step)) = (
  done ++ line ∷ [],
  run.out ++ (text ++ 10 ∷ []),
  runs-more setting done old mid new run.out line text run.ran step,
  taken-first input later lines' (done ++ line ∷ []) (read-line input left later lines lines' done line read takes one),
)

-- with all answers
pub runs-some : (setting : Setting) (input : Option (List ℕ)) (left : Reader) (before after : Option (List ℕ)) (lines : ℕ) (done : List (List ℕ)) (old new : World)
    → HasRead input left lines done → HasRun setting done (output before after) old new → RunsSome setting input (output before after) old new
runs-some setting input left before after lines done old new read run = (done, run.out, run.ran, run.answers, taken-first input left lines done read)

-- at the end of the input
pub runs-all : (setting : Setting) (input : Option (List ℕ)) (left : Reader) (before after : Option (List ℕ)) (lines : ℕ) (done : List (List ℕ)) (old new : World)
    → HasRead input left lines done → Ends left → HasRun setting done (output before after) old new → RunsAll setting input (output before after) old new
runs-all setting input left before after lines done old new read ends run = (done, run.out, run.ran, run.answers, taken-all input left lines done read ends)

-- ---- after the answers that were pending were written

flushed : (before after after' : Option (List ℕ)) (pending pending' out : List ℕ) → Appends before (append_known after pending) out → Keeps (append_known after pending) (append_known after' pending') → pending' ≡ [] → Appends before after' out
flushed None after after' pending pending' out grew kept none = tt
flushed (Some xs) None after' pending pending' out grew kept none = absurd grew
flushed (Some xs) (Some ys) None pending pending' out grew kept none = absurd kept
flushed (Some xs) (Some ys) (Some zs) pending pending' out grew kept none = sym (append-nil zs) ∙ sym (ap (λ p. zs ++ p) none) ∙ kept ∙ grew

pub all-written : (setting : Setting) (input before after after' : Option (List ℕ)) (pending pending' : List ℕ) (old new : World) → RunsAll setting input (output before (append_known after pending)) old new
    → Keeps (append_known after pending) (append_known after' pending') → pending' ≡ [] → RunsAll setting input (output before after') old new
all-written setting input before after after' pending pending' old new ran kept none = (ran.0, ran.1, ran.2, flushed before after after' pending pending' ran.1 ran.3 kept none, ran.4)

pub some-written : (setting : Setting) (input before after after' : Option (List ℕ)) (pending pending' : List ℕ) (old new : World) → RunsSome setting input (output before (append_known after pending)) old new
    → Keeps (append_known after pending) (append_known after' pending') → pending' ≡ [] → RunsSome setting input (output before after') old new
some-written setting input before after after' pending pending' old new ran kept none = (ran.0, ran.1, ran.2, flushed before after after' pending pending' ran.1 ran.3 kept none, ran.4)

pub stands-all : (setting : Setting) (input before after : Option (List ℕ)) (old new : World) → RunsAll setting input (output before after) old new → StandsAfterSome setting input old new
stands-all setting None before after old new ran = (ran.0, ran.1, ran.2, tt)
stands-all setting (Some text) before after old new ran = (ran.0, ran.1, ran.2, ([], ran.4 ∙ sym (append-nil ran.0)))

-- ---- outcomes

-- what follows from two things that hold where there is a value
pub both-ok : {T E P Q R : Type 0} (r : Result T E) → OnOk r P → OnOk r Q → (P → Q → R) → OnOk r R
both-ok (Ok x) p q both = both p q
both-ok (Err e) p q both = tt
