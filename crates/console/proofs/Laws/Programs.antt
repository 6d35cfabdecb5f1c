-- What a program makes of a text that was read, and what goes out of the buffer that holds its answer. Assumes nothing.
use Rattle.std.specs.Prelude.{ℕ, suc, ◌≡◌, ◌≤◌, ◌<◌, ◌++◌, Bool, true, false, T, not, ltb, List, [], length, take, drop, Option, Some, None, IfSome}
use Rattle.std.proofs.Common.{sym, ap, subst, ◌∙◌, arith, ltb→lt, nltb→le}
use Rattle.std.proofs.lemmas.List.{take-append-le, take_all, length-take-le, append-nil}
use Rattle.std.proofs.Math.Seq.{take-append_seam}
use Rattle.std.specs.Io.KnownBytes.{Appends}
use Rattle.formats.specs.Limits.{net_length_limit}
use Rattle.formats.specs.Outcome.{Outcome}
use Rattle.operations.specs.Answers.{Written, overwritten}
use Rattle.console.specs.Printing.{plan_printed, Prints}
use Rattle.console.specs.Streams.{IsRead}

if_some : {A : Type 0} {P Q : A → Type 0} (o : Option A) → ((x : A) → P x → Q x) → IfSome o P → IfSome o Q
if_some None f p = p
if_some (Some x) f p = f x p

-- the first n bytes of a buffer of k, which were read, are the first k that the reader had
read_front : (left text : List ℕ) (n k : ℕ) → length text ≡ k → n ≤ k → IsRead left text (Some n) → take n text ≡ take k left
read_front left text n k e h r = go (ltb n k) (λ t. ltb→lt n k t) (λ t. nltb→le n k t)
  where
    size : length (take n text) ≡ n
    size = length-take-le n text (omega (arith, e, h))

    go : (t : Bool) → (T t → n < k) → (T (not t) → k ≤ n) → take n text ≡ take k left
    go true f g =
        let nothing : r.0 ≡ [] = r.2 (omega (arith, e, f tt)) in
        let same : left ≡ take n text = r.1 ∙ ap (λ l. take n text ++ l) nothing ∙ append-nil (take n text) in
        sym same ∙ sym (take_all k left (omega (arith, ap length same, size, h)))
    go false f g =
        let all : take k (take n text) ≡ take n text = take_all k (take n text) (omega (arith, size, h)) in
        sym (ap (take k) r.1 ∙ take-append-le k (take n text) r.0 (omega (arith, size, g tt)) ∙ all)

-- the bytes of the buffer that are the answer
printed_front : (before s : List ℕ) (n : ℕ) (after : List ℕ) → Prints before s n after → take n after ≡ s
printed_front before s n after p = ap (take n) p.left ∙ ap (λ m. take m (overwritten s before)) p.long ∙ take-append_seam s (drop (length s) before)

-- what went out of the buffer is of the answer that was put into it
pub answer_goes_out : (old new : Option (List ℕ)) (s before after : List ℕ) (m sent : ℕ) → Prints before s m after → Appends old new (take sent (take m after)) → Appends old new (take sent s)
answer_goes_out old new s before after m sent prints written = subst (λ (s : List ℕ). Appends old new (take sent s)) (printed_front before s m after prints) written

-- what was read of the net is the front of what the reader had
pub goes_out : (remaining old new : Option (List ℕ)) (answers : List ℕ → ℕ → Outcome Written) (text : List ℕ) (n sent room : ℕ)
    → length text ≡ suc net_length_limit → n ≤ suc net_length_limit → IfSome remaining (λ left. IsRead left text (Some n))
    → Appends old new (take sent (plan_printed (answers (take n text) room)))
    → IfSome remaining (λ left. Appends old new (take sent (plan_printed (answers (take (suc net_length_limit) left) room))))
goes_out remaining old new answers text n sent room e h reads written =
    if_some remaining
    (λ left r. subst (λ (s : List ℕ). Appends old new (take sent (plan_printed (answers s room)))) (read_front left text n (suc net_length_limit) e h r) written)
    reads
