-- Bytes written into a lent list, whose other bytes stay. Where there is room this is one store after the other, and so two texts
-- written one behind the other are both written at once. Assumes nothing.
use Rattle.std.specs.Prelude.{ℕ, suc, ◌+◌, ◌-◌, ◌≤◌, ◌<◌, ◌≡◌, List, [], ◌∷◌, ◌++◌, take, get_or, set}
use Rattle.std.proofs.Common.{refl, sym, ◌∙◌, append_assoc, add-zero, add-one, arith, length-drop, drop-cons, drop-drop, take_at, length-take-le}
use Rattle.std.proofs.Math.Path.{ap}
use Rattle.std.proofs.Math.ListN.{length, drop, length-append}
use Rattle.std.proofs.lemmas.List.{drop-append-le, take-append-drop}
use Rattle.std.proofs.lemmas.List.Edits.{sets, sets-eq}
use Rattle.std.proofs.lemmas.Slice.{between_is}
use Rattle.std.proofs.Math.Seq.{length-sets, slice, length-slice, drop-length, drop_at, drop-append_seam, take-take, take-append-le}
use borrow.Rule.Slice.PartMut.{put_mid}
use Rattle.std.specs.List.{copy_within}
use Rattle.listing_text.specs.Put.{Wrote, put}

-- Where there is room, to put bytes is to store one after the other.
put_sets : (at : ℕ) (bs out : List ℕ) → at + length bs ≤ length out → put at bs out ≡ sets out at bs
unfolding put
put_sets at bs out h = sym (sets-eq bs out at h ∙ append_assoc (take at out) bs (drop (at + length bs) out))

sets_append : (a b l : List ℕ) (i : ℕ) → sets l i (a ++ b) ≡ sets (sets l i a) (i + length a) b
sets_append [] b l i = rw (add-zero i)
sets_append (x ∷ a) b l i =
    let e : suc i + length a ≡ i + suc (length a) = omega arith in
    sets_append a b (set l i x) (suc i) ∙ ap (λ (n : ℕ). sets (sets (set l i x) (suc i) a) n b) e

pub length_put : (at : ℕ) (bs out : List ℕ) → at + length bs ≤ length out → length (put at bs out) ≡ length out
length_put at bs out h = ap length (put_sets at bs out h) ∙ length-sets out at bs

-- nothing, one byte, and one text behind the other
pub put_nil : (at : ℕ) (out : List ℕ) → at ≤ length out → put at [] out ≡ out
put_nil at out h = put_sets at [] out (omega arith)

pub put_byte : (at b : ℕ) (out : List ℕ) → at < length out → put at (b ∷ []) out ≡ set out at b
put_byte at b out h = put_sets at (b ∷ []) out (omega arith)

pub put_append : (at : ℕ) (a b out : List ℕ) → at + length a + length b ≤ length out → put at (a ++ b) out ≡ put (at + length a) b (put at a out)
put_append at a b out h =
    let g : at + length a ≤ length out = omega arith in
    put_sets at (a ++ b) out (omega (arith, length-append a b))
    ∙ sets_append a b out at
    ∙ ap (λ (l : List ℕ). sets l (at + length a) b) (sym (put_sets at a out g))
    ∙ sym (put_sets (at + length a) b (put at a out) (omega (arith, length_put at a out g)))

pub put_cons : (at b : ℕ) (bs out : List ℕ) → at + 1 + length bs ≤ length out → put at (b ∷ bs) out ≡ put (at + 1) bs (set out at b)
put_cons at b bs out h = put_append at (b ∷ []) bs out h ∙ ap (λ (l : List ℕ). put (at + 1) bs l) (put_byte at b out (omega arith))

-- What stands in front of what is put, what is put, and what stands behind.
module _ (at : ℕ) (bs out : List ℕ) (room : at + length bs ≤ length out) where
  in_front : length (take at out) ≡ at
  in_front = length-take-le at out (omega arith)

  put_front : (i : ℕ) → i ≤ at → take i (put at bs out) ≡ take i out
  unfolding put
  put_front i h = take-append-le i (take at out) (bs ++ drop (at + length bs) out) (omega (arith, in_front)) ∙ take-take i at out h

  put_from : drop at (put at bs out) ≡ bs ++ drop (at + length bs) out
  unfolding put
  put_from = drop_at (take at out) (bs ++ drop (at + length bs) out) at in_front

  put_behind : (i : ℕ) → drop (at + length bs + i) (put at bs out) ≡ drop (at + length bs + i) out
  put_behind i =
      sym (drop-drop i (at + length bs) (put at bs out))
      ∙ ap (drop i) (sym (drop-drop (length bs) at (put at bs out)) ∙ ap (drop (length bs)) put_from ∙ drop-append_seam bs (drop (at + length bs) out))
      ∙ drop-drop i (at + length bs) out

  put_read : slice at (at + length bs) (put at bs out) ≡ bs
  unfolding put
  put_read =
      ap (λ l. slice at (at + length bs) l) (sym (append_assoc (take at out) bs (drop (at + length bs) out)))
      ∙ ap (drop at) (take_at (take at out ++ bs) (drop (at + length bs) out) (at + length bs) (omega (arith, length-append (take at out) bs, in_front)))
      ∙ drop_at (take at out) bs at in_front

-- the text behind first
put_back : (at : ℕ) (a b out : List ℕ) → at + length a + length b ≤ length out → put at (a ++ b) out ≡ put at a (put (at + length a) b out)
unfolding put
put_back at a b out h =
    let e : at + length (a ++ b) ≡ at + length a + length b = omega (arith, length-append a b) in
    rw (put_front (at + length a) b out h at (omega arith), put_from (at + length a) b out h, e, append_assoc a b (drop (at + length a + length b) out))

pub put_last : (at b : ℕ) (a out : List ℕ) → at + length a < length out → put at (a ++ (b ∷ [])) out ≡ put at a (set out (at + length a) b)
put_last at b a out h = put_back at a (b ∷ []) out (omega arith) ∙ ap (λ l. put at a l) (put_byte (at + length a) b out h)

-- a text that covers another
put_over : (i at : ℕ) (t bs out : List ℕ) → at + length bs ≤ length out → i ≤ at → at + length bs ≤ i + length t → put i t (put at bs out) ≡ put i t out
unfolding put
put_over i at t bs out room h g =
    let e : i + length t ≡ at + length bs + (i + length t - (at + length bs)) = omega arith in
    let d : drop (i + length t) (put at bs out) ≡ drop (i + length t) out = rw e (put_behind at bs out room (i + length t - (at + length bs))) in
    rw (put_front at bs out room i h, d)

-- The bytes of a text one by one: what is left to put at the place i of it, with one more put, and at its end.
module _ (at i : ℕ) (bs out : List ℕ) (room : at + length bs ≤ length out) where
  pub put_next : i < length bs → put (at + i) (drop i bs) out ≡ put (at + (i + 1)) (drop (i + 1) bs) (set out (at + i) (get_or bs i 0))
  put_next h =
      let e : at + i + 1 ≡ at + (i + 1) = omega arith in
      ap (λ (l : List ℕ). put (at + i) l out) (drop-cons bs i 0 h)
      ∙ put_cons (at + i) (get_or bs i 0) (drop (suc i) bs) out (omega (arith, length-drop (suc i) bs))
      ∙ rw (e, add-one i)

  pub put_done : i ≡ length bs → put (at + i) (drop i bs) out ≡ out
  put_done e = rw (e, drop-length bs) (put_nil (at + length bs) out room)

-- the one byte of a part
pub set_only : (l : List ℕ) (b : ℕ) → length l ≡ 1 → set l 0 b ≡ b ∷ []
set_only [] b e = absurd (omega arith)
set_only (x ∷ []) b e = refl
set_only (x ∷ y ∷ l) b e = absurd (omega arith)

-- a part that is lent, and written at its front
pub wrote_part : {a k r : ℕ} {bs out ys : List ℕ} → a + k ≤ length out → length bs ≤ k → Wrote 0 bs (take k (drop a out)) ys r
    → Wrote a bs out (put_mid a k out ys) (a + r)
unfolding put
wrote_part {a} {k} {bs = bs} {out} {ys} room h f =
    let d = drop a out in
    let z : 0 + length bs ≡ length bs = omega arith in
    let e : ys ≡ bs ++ drop (length bs) (take k d) = f.bytes ∙ ap (λ n. bs ++ drop n (take k d)) z in
    let s : drop (length bs) (take k d) ++ drop k d ≡ drop (a + length bs) out =
    sym (drop-append-le (length bs) (take k d) (drop k d) (omega (arith, length-take-le k d (omega (arith, length-drop a out)))))
    ∙ ap (drop (length bs)) (take-append-drop k d)
    ∙ drop-drop (length bs) a out in
    record { bytes = rw (e, append_assoc bs (drop (length bs) (take k d)) (drop k d), s); behind = omega (arith, f.behind) }

-- the front, filled
pub wrote_front : {n : ℕ} {bs : List ℕ} (out : List ℕ) → n ≡ length bs → Wrote 0 bs out (bs ++ drop n out) n
unfolding put
wrote_front {bs = bs} out e = let z : 0 + length bs ≡ length bs = omega arith in record { bytes = rw (e, z); behind = omega arith }

-- three parts of the front, filled
pub wrote_three : {i j k : ℕ} (a b c out : List ℕ) → i ≡ length a → j ≡ length b → k ≡ length c
    → Wrote 0 (a ++ b ++ c) out (a ++ (b ++ (c ++ drop k (drop j (drop i out))))) (length a + length b + length c)
wrote_three {i} {j} {k} a b c out d e f =
    let l : length a + length b + length c ≡ length (a ++ b ++ c) = simp length-append in
    rw (d, e, f, drop-drop (length b) (length a) out, drop-drop (length c) (length a + length b) out, ← append_assoc a b, ← append_assoc (a ++ b) c)
    (wrote_front out l)

-- n bytes copied from one place to another
pub wrote_within : (i n at : ℕ) (out : List ℕ) → i + n ≤ length out → Wrote at (slice i (i + n) out) out (copy_within out i (i + n) at) (at + n)
unfolding put
wrote_within i n at out h =
    let e : i + n - i ≡ n = omega arith in
    let b : take n (drop i out) ≡ slice i (i + n) out = rw e at (between_is out i (i + n)) in
    let l : length (slice i (i + n) out) ≡ n = omega (arith, length-slice i (i + n) out h) in
    record {
      bytes = rw (e, b, l) (append_assoc (take at out) (slice i (i + n) out) (drop (at + n) out));
      behind = omega arith;
    }

-- two calls, one behind the other
pub wrote_both : {at r s : ℕ} {a b x y z : List ℕ} → Wrote at a x y r → Wrote r b y z s → at + length a + length b ≤ length x → Wrote at (a ++ b) x z s
wrote_both {at} {a = a} {b} {x} {y} f g h =
    record {
      bytes = g.bytes ∙ ap (λ (n : ℕ). put n b y) f.behind ∙ ap (λ (l : List ℕ). put (at + length a) b l) f.bytes ∙ sym (put_append at a b x h);
      behind = omega (arith, length-append a b);
    }

-- and a byte behind the first
pub wrote_last : {at r : ℕ} {a x y : List ℕ} (b : ℕ) → Wrote at a x y r → at + length a < length x → Wrote at (a ++ (b ∷ [])) x (set y r b) (r + 1)
wrote_last {at} {r} {a} {x} {y} b f h =
    let l : r < length y = omega (arith, f.behind, ap length f.bytes, length_put at a x (omega arith)) in
    wrote_both f (record { bytes = sym (put_byte r b y l); behind = omega arith }) (omega arith)

-- bytes put at a place, put again further up, and then a text in front of them
pub wrote_up : {at up k r s : ℕ} {t bs x y z w : List ℕ} → Wrote at bs x y k → Wrote up (slice at k y) y z r → Wrote 0 t z w s → at ≤ up → up ≡ length t
    → length t + length bs ≤ length x → Wrote 0 (t ++ bs) x w r
wrote_up {at} {up} {k} {t = t} {bs} {x} {y} f g h l e room =
    let b : slice at k y ≡ bs = rw (f.behind, f.bytes) (put_read at bs x (omega arith)) in
    let n : 0 + length t ≡ up = omega arith in
    record {
      bytes =
          h.bytes
          ∙ ap (λ (o : List ℕ). put 0 t o) (g.bytes ∙ rw (b, n))
          ∙ sym (put_back 0 t bs y (omega (arith, ap length f.bytes, length_put at bs x (omega arith))))
          ∙ ap (λ (o : List ℕ). put 0 (t ++ bs) o) f.bytes
          ∙ put_over 0 at (t ++ bs) bs x (omega arith) (omega arith) (omega (arith, length-append t bs));
      behind = omega (arith, g.behind, ap length b, length-append t bs);
    }
