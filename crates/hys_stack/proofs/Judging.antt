-- One thing that may be wrong after another.
use Rattle.std.proofs.Common.{◌≡◌, ℕ, List, [], ◌∷◌, Bool, true, false, cond, bytes_eq, Option, Some, None, Result, Ok, Err, refl, subst, inl, inr}
use Rattle.std.proofs.lemmas.Slice.Eq.{bytes_eq-Decides}
use Rattle.serde_json.specs.Data.{Data, Members}
use Rattle.serde_json.specs.Find.{as_object}
use Rattle.hys_json.specs.Values.{has, is_one_of}
use Rattle.hys_sys.specs.declared.system.System.{System}
use Rattle.hys_stack.specs.declared.request.Request.{Request}
use Rattle.hys_stack.specs.declared.fault.RequestFault.{RequestFault}
use Rattle.hys_stack.specs.Reading.{or_else, Refuses, Answers, missing_fault, required_keys, keys_fault, root_by, root_fault, limit_fault, HasKeys}

pub or_first : (o p : Option RequestFault) (f : RequestFault) → Refuses o f → Refuses (or_else o p) f
unfolding or_else
or_first o p f (inl e) = inl e
or_first o p f (inr e) = inr (rw e refl)

pub or_second : (o p : Option RequestFault) (f : RequestFault) → o ≡ None → Refuses p f → Refuses (or_else o p) f
unfolding or_else
or_second o p f e (inl h) = inl h
or_second o p f e (inr h) = inr (rw e h)

pub or_none : (o p : Option RequestFault) → o ≡ None → p ≡ None → or_else o p ≡ None
unfolding or_else
or_none o p e h = rw e h

pub answers_second : {T : Type 0} (o p : Option RequestFault) (Is : T → Type 0) (r : Result T RequestFault) → o ≡ None → Answers p Is r → Answers (or_else o p) Is r
answers_second o p Is (Ok x) e h = (or_none o p e h.0, h.1)
answers_second o p Is (Err f) e h = or_second o p f e h

pub or_third : (o p q : Option RequestFault) (f : RequestFault) → o ≡ None → p ≡ None → Refuses q f → Refuses (or_else o (or_else p q)) f
or_third o p q f a b h = or_second o (or_else p q) f a (or_second p q f b h)

pub or_fourth : (o p q r : Option RequestFault) (f : RequestFault) → o ≡ None → p ≡ None → q ≡ None → Refuses r f → Refuses (or_else o (or_else p (or_else q r))) f
or_fourth o p q r f a b c h = or_second o (or_else p (or_else q r)) f a (or_third p q r f b c h)

pub none_of_three : (o p q : Option RequestFault) → o ≡ None → p ≡ None → q ≡ None → or_else o (or_else p q) ≡ None
none_of_three o p q a b c = or_none o (or_else p q) a (or_none p q b c)

pub none_of_four : (o p q r : Option RequestFault) → o ≡ None → p ≡ None → q ≡ None → r ≡ None → or_else o (or_else p (or_else q r)) ≡ None
none_of_four o p q r a b c d = or_none o (or_else p (or_else q r)) a (none_of_three p q r b c d)

pub answers_third : {T : Type 0} (o p q : Option RequestFault) (Is : T → Type 0) (r : Result T RequestFault) → o ≡ None → p ≡ None → Answers q Is r → Answers (or_else o (or_else p q)) Is r
answers_third o p q Is r a b h = answers_second o (or_else p q) Is r a (answers_second p q Is r b h)

-- the same of a fault that isn't want of memory
pub some_first : (o p : Option RequestFault) (f : RequestFault) → o ≡ Some f → or_else o p ≡ Some f
unfolding or_else
some_first o p f e = rw e refl

pub some_second : (o p : Option RequestFault) (f : RequestFault) → o ≡ None → p ≡ Some f → or_else o p ≡ Some f
unfolding or_else
some_second o p f e h = rw e h

pub some_third : (o p q : Option RequestFault) (f : RequestFault) → o ≡ None → p ≡ None → q ≡ Some f → or_else o (or_else p q) ≡ Some f
some_third o p q f a b h = some_second o (or_else p q) f a (some_second p q f b h)

pub some_fourth : (o p q r : Option RequestFault) (f : RequestFault) → o ≡ None → p ≡ None → q ≡ None → r ≡ Some f → or_else o (or_else p (or_else q r)) ≡ Some f
some_fourth o p q r f a b c h = some_second o (or_else p (or_else q r)) f a (some_third p q r f b c h)

-- a request that passes is kept
pub limited : (o : Option RequestFault) (S : System) (r r' : Request) (res : Result Request RequestFault) → o ≡ None → r ≡ r' → Answers (limit_fault S r) (λ (x : Request). x ≡ r) res → Answers (or_else o (limit_fault S r')) (λ (x : Request). x ≡ r') res
limited o S r r' res e q h = answers_second o (limit_fault S r') (λ (x : Request). x ≡ r') res e (subst (λ (y : Request). Answers (limit_fault S y) (λ (x : Request). x ≡ y) res) q h)

-- a value in whose keys nothing is wrong has each that is required
passed : (b : Bool) (rest : Option RequestFault) (f : RequestFault) → cond b rest (Some f) ≡ None → (b ≡ true) × (rest ≡ None)
passed true rest f h = (refl, h)
passed false rest f h = absurd (cc)

first_none : (o p : Option RequestFault) → or_else o p ≡ None → o ≡ None
unfolding or_else
first_none None p e = refl
first_none (Some f) p e = absurd (cc)

missing_has : (keys : List (List ℕ)) (d : Data) (key : List ℕ) → missing_fault [] keys d ≡ None → is_one_of keys key ≡ true → has key d ≡ true
missing_has [] d key h e = absurd (let q : false ≡ true = e in cc)
missing_has (k ∷ keys) d key h e =
    let p : (has k d ≡ true) × (missing_fault [] keys d ≡ None) = passed (has k d) (missing_fault [] keys d) _ h in
    go (bytes_eq k key) refl e p.0 (missing_has keys d key p.1)
  where
    go : (b : Bool) → bytes_eq k key ≡ b → cond b true (is_one_of keys key) ≡ true → has k d ≡ true → (is_one_of keys key ≡ true → has key d ≡ true) → has key d ≡ true
    go true q c a r = subst (λ t. has t d ≡ true) ((bytes_eq-Decides k key).0 q) a
    go false q c a r = r c

keys_has : (d : Data) (ms : Members) (key : List ℕ) → keys_fault d ms ≡ None → is_one_of required_keys key ≡ true → has key d ≡ true
unfolding keys_fault
keys_has d ms key h e = missing_has required_keys d key (first_none _ _ h) e

pub root_has : (d : Data) (key : List ℕ) → HasKeys d → is_one_of required_keys key ≡ true → has key d ≡ true
unfolding root_fault
root_has d key h e = go (as_object d) h
  where
    go : (o : Option Members) → root_by d o ≡ None → has key d ≡ true
    go None h = absurd (cc)
    go (Some ms) h = keys_has d ms key h e
