-- A test of requests that is a test of the entries.
use Rattle.std.specs.Prelude.{◌≡◌, ℕ, ◌+◌, Bool, cond, List, [], ◌∷◌, nat_eq, refl}
use Rattle.std.proofs.Common.{ap}
use Rattle.bank.specs.Lists.{any, holds_by, is_active, is_holder}
use Rattle.bank.specs.declared.request.Request.{Request}
use Rattle.readers_writers.specs.Lines.{some, is_writer, holder_of, request_of, requests_from, requests}
use Rattle.readers_writers.specs.declared.entry.Entry.{Entry}
use Rattle.readers_writers.specs.Sound.{request_party, request_holds}

module _ (f : Request → Bool) (g : Entry → Bool) (same : (b : Bool) (h n : ℕ) (e : Entry) → f (request_of b h n e) ≡ g e) where
  pub any_requests : (b : Bool) (h n : ℕ) (es : List Entry) → any f (requests_from b h n es) ≡ some g es
  any_requests b h n [] = refl
  any_requests b h n (e ∷ es) = let a = same b h n e in let more = any_requests b h (n + cond (is_writer e) 1 0) es in cc

pub holder_same : (p : ℕ) (b : Bool) (h n : ℕ) (e : Entry) → holds_by p (request_of b h n e) ≡ holder_of p e
holder_same p b h n e = let a = request_party b h n e in let c = request_holds b h n e in cc

-- a party is active, or holds, where an entry says so
pub active_entry : (p : ℕ) (es : List Entry) → is_active p (requests es) ≡ some (λ e. nat_eq e.party p) es
active_entry p es = any_requests (λ a. nat_eq a.party p) (λ e. nat_eq e.party p) (λ b h n e. ap (λ q. nat_eq q p) (request_party b h n e)) _ _ 0 es

pub holder_entry : (p : ℕ) (es : List Entry) → is_holder p (requests es) ≡ some (holder_of p) es
holder_entry p es = any_requests _ (holder_of p) (holder_same p) _ _ 0 es
