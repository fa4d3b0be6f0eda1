-- `best` is what document 01 says: the longest match wins, and of several that are as long the first rule in the list. By induction on
-- the rules, since `longest` finds each rule's longest match (longest_right). Assumes nothing.
use Rattle.std.specs.Prelude.{ℕ, suc, ◌≤◌, ◌<◌, ◌≡◌, refl, Bool, true, false, cond, ◌&&◌, ◌⊎◌, List, [], ◌∷◌, length, leb}
use Rattle.std.proofs.Common.{ap, inl, inr, ⊎_elim, arith, leb-true, leb-false}
use Rattle.patterns.specs.Pattern.{Pat, longest}
use Rattle.patterns.specs.Lists.{All}
use Rattle.patterns.proofs.Lists.{all_append}
use Rattle.patterns.specs.Longest.{Longest, Right, is_none, is_longest}
use Rattle.patterns.proofs.Longest.{longest_right}
use Rattle.tokens.specs.declared.Hit.{Hit}
use Rattle.tokens.specs.Tokens.{Rule}
use Rattle.tokens.specs.Scan.{hit, best}
use Rattle.tokens.specs.BestLaws.{Below, Best, none, won}

weaker : (s : List ℕ) (n m : ℕ) → n ≤ m → (rs : List Rule) → All (Below s n) rs → All (Below s m) rs
weaker s n m h [] a = tt
weaker s n m h (r ∷ rs) a = (λ k l. a.0 k (omega arith), weaker s n m h rs a.1)

-- what the winner leaves to any rule
all_below : {rs : List Rule} {s : List ℕ} {h : Hit} (n : ℕ) → h.len ≤ n → Best rs s h → All (Below s (suc n)) rs
all_below {rs} {s} n l (none e a) = weaker s 1 (suc n) (omega arith) rs a
all_below {s} {h} n l (won w) =
    rw w.listed
    ((all_append (Below s (suc n)) w.before (w.rule ∷ w.behind)).1 (
      weaker s h.len (suc n) (omega arith) w.before w.shorter,
      (λ m k. w.matched.most m (omega arith), weaker s (suc h.len) (suc n) (omega arith) w.behind w.no_longer),
    ))

-- how far a rule reaches
below_longest : (r : Rule) (s : List ℕ) (n : ℕ) → 1 ≤ n → longest r.pattern s < n → Below s n r
below_longest r s n h l = go (longest_right r.pattern s) l
  where
    go : {k : ℕ} → Right r.pattern s k → k < n → Below s n r
    go (is_none a) l m g = a.never m
    go (is_longest a) l m g = a.most m (omega arith)

reached : (p : Pat) (s : List ℕ) → 1 ≤ longest p s → Longest p s (longest p s)
reached p s h = go (longest_right p s) h
  where
    go : {k : ℕ} → Right p s k → 1 ≤ k → Longest p s k
    go (is_none a) h = absurd (omega arith)
    go (is_longest a) h = a

-- one rule more
module _ (r : Rule) {rs : List Rule} {s : List ℕ} {h : Hit} (b : Best rs s h) where
  abbrev n : ℕ
  n = longest r.pattern s

  takes : 1 ≤ n → h.len ≤ n → Best (r ∷ rs) s (hit r.kind n)
  takes f g =
      won
      (record {
        before = [];
        rule = r;
        behind = rs;
        listed = refl;
        kind = refl;
        taken = f;
        matched = reached r.pattern s f;
        shorter = tt;
        no_longer = all_below n g b;
      })

  leaves : (n < 1) ⊎ (n < h.len) → Best (r ∷ rs) s h
  leaves f = go b f
    where
      go : Best rs s h → (n < 1) ⊎ (n < h.len) → Best (r ∷ rs) s h
      go (none e a) (inl f) = none e (below_longest r s 1 (omega arith) f, a)
      go (none e a) (inr f) = let z : h.len ≡ 0 = ap (λ (x : Hit). x.len) e in absurd (omega arith)
      go (won w) f =
          won
          (record {
            before = r ∷ w.before;
            rule = w.rule;
            behind = w.behind;
            listed = ap (λ (l : List Rule). r ∷ l) w.listed;
            kind = w.kind;
            taken = w.taken;
            matched = w.matched;
            shorter = (below_longest r s h.len w.taken (⊎_elim (λ x. omega (arith, w.taken)) (λ x. x) f), w.shorter);
            no_longer = w.no_longer;
          })

  one_more : (t u : Bool) → leb 1 n ≡ t → leb h.len n ≡ u → Best (r ∷ rs) s (cond (t && u) (hit r.kind n) h)
  one_more true true f g = takes (leb-true 1 n f) (leb-true h.len n g)
  one_more true false f g = leaves (inr (leb-false h.len n g))
  one_more false u f g = leaves (inl (leb-false 1 n f))

pub best_right : (rs : List Rule) (s : List ℕ) → Best rs s (best rs s)
unfolding best
best_right [] s = none refl tt
best_right (r ∷ rs) s = one_more r (best_right rs s) (leb 1 (longest r.pattern s)) (leb (best rs s).len (longest r.pattern s)) refl refl

pub best_le : (rs : List Rule) (s : List ℕ) → (best rs s).len ≤ length s
best_le rs s = go (best_right rs s)
  where
    go : {h : Hit} → Best rs s h → h.len ≤ length s
    go (none e a) = omega (arith, ap (λ (x : Hit). x.len) e)
    go (won w) = w.matched.inside

-- what holds of every rule holds of the one that wins
pub best_rule : (P : ℕ → Type 0) (rs : List Rule) (s : List ℕ) → All (λ r. P r.kind) rs → 1 ≤ (best rs s).len → P (best rs s).kind
best_rule P rs s a l = go (best_right rs s) l
  where
    go : {h : Hit} → Best rs s h → 1 ≤ h.len → P h.kind
    go (none e b) l = absurd (omega (arith, ap (λ (x : Hit). x.len) e))
    go (won w) l = rw w.kind ((all_append (λ r. P r.kind) w.before (w.rule ∷ w.behind)).0 (rw w.listed at a)).1.0
