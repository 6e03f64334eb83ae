-- Laws of the stand-in: the length and range of its answers, and that a key accepts its own signatures.
use mathlib.Core.Bool.{true}
use mathlib.Core.List.{List, [], ◌∷◌, ◌++◌}
use mathlib.Core.Path.{◌≡◌, refl}
use Prim.Native.Nat.{ℕ, zero, suc, ◌+◌, ◌%◌}
use native.Mathlib.Omega.{arith}
use lib.ListN.{length, length-append}
use Rattle.fields.specs.Fields.{Bytes}
use Rattle.fields.proofs.Laws.{bytes-append, bytes_low, same_refl}
use Rattle.standin.specs.Standin.{accepts, lanes, lane, public_key, signature, signature_by, text}

pub digest-length : (n : ℕ) (m : List ℕ) → length (lanes n m) ≡ n
unfolding lanes
digest-length zero m = refl
digest-length (suc n) m = simp (length-append, digest-length n m) (omega arith)

pub digest-bytes : (n : ℕ) (m : List ℕ) → Bytes (lanes n m)
unfolding lanes
digest-bytes zero m = bytes_low []
digest-bytes (suc n) m = bytes-append (lanes n m) (lane (n + 2) 0 m % 256 ∷ []) (digest-bytes n m) (bytes_low (lane (n + 2) 0 m ∷ []))

pub public_key-length : (s : List ℕ) → length (public_key s) ≡ 32
unfolding public_key text
public_key-length s = omega (arith, digest-length 16 (text ++ s))

pub public_key-bytes : (s : List ℕ) → Bytes (public_key s)
unfolding public_key text
public_key-bytes s = bytes-append text (lanes 16 (text ++ s)) (bytes_low text) (digest-bytes 16 (text ++ s))

pub signature-length : (s m : List ℕ) → length (signature s m) ≡ 64
unfolding signature signature_by
signature-length s m = digest-length 64 (public_key s ++ m)

pub signature-bytes : (s m : List ℕ) → Bytes (signature s m)
unfolding signature signature_by
signature-bytes s m = digest-bytes 64 (public_key s ++ m)

-- that a key accepts its own signatures is assumed of Ed25519 (ASSUMPTIONS.md): it holds of the stand-in, so it contradicts nothing
pub accepts-own : (s m : List ℕ) → accepts (public_key s) m (signature s m) ≡ true
unfolding accepts signature
accepts-own s m = same_refl (signature_by (public_key s) m)
