-- The pieces of a recording are delivered, the last one first.
use Rattle.std.proofs.Common.{◌≡◌, suc, List, [], ◌∷◌, ◌++◌, length, sym, ap, ◌∙◌, subst, append_assoc}
use Rattle.std.proofs.lemmas.List.{append-nil}
use Rattle.wasm_types.specs.declared.key.RunKey.{RunKey}
use Rattle.replica.specs.Piece.{PieceValue}
use Rattle.replica.specs.declared.log.Log.{Log}
use Rattle.replica.specs.Log.{key_of}
use Rattle.replica.specs.LogOf.{Among, IsLogOf}

-- these pieces are left of all, and the log is that of the others
pub record AreLeft (key : RunKey) (all left : List PieceValue) (log : Log) : Type 0 where
  pub done : List PieceValue
  pub split : all ≡ left ++ done
  pub same_key : key_of log ≡ key
  pub is_log : IsLogOf (Among done) log

pub all_left : (key : RunKey) (all : List PieceValue) (log : Log) → key_of log ≡ key → IsLogOf (Among []) log → AreLeft key all all log
all_left key all log same_key is_log = record { done = []; split = sym (append-nil all); same_key = same_key; is_log = is_log }

pub one_less : (key : RunKey) (all left now : List PieceValue) (piece : PieceValue) (log new : Log) → AreLeft key all left log → left ≡ now ++ piece ∷ [] → key_of new ≡ key_of log
    → ((done : List PieceValue) → IsLogOf (Among done) log → IsLogOf (Among (piece ∷ done)) new) → AreLeft key all now new
one_less key all left now piece log new h last same_key more = record {
  done = piece ∷ h.done;
  split = h.split ∙ ap (λ l. l ++ h.done) last ∙ append_assoc now (piece ∷ []) h.done;
  same_key = same_key ∙ h.same_key;
  is_log = more h.done h.is_log;
}

pub none_left : (key : RunKey) (all left : List PieceValue) (log : Log) → AreLeft key all left log → length left ≡ 0 → IsLogOf (Among all) log
none_left key all [] log h empty = subst (λ ps. IsLogOf (Among ps) log) (sym h.split) h.is_log
none_left key all (p ∷ ps) log h empty = absurd (let no : suc (length ps) ≡ 0 = empty in cc)
