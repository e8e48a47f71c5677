-- A step that the walks of `src/given.rt` share: a struct is made of its only field. Assumes `Logic`.
use Rattle.std.proofs.Common.{List, [], ◌∷◌, refl}
use seplogic.Ra.Ura.{Ura}
use mir.Val.{Val, vstruct, vcons, vnil}
use types.Logic.{Logic}
use types.Kit.{Goal, Step, step, Item, ‵, ◌$◌, move, fjoin, fpack, feq_i}
use denote.RattleType.{RattleType, Valss}
use denote.Steps.{nothing}
use denote.Struct.Struct.{Struct, within}

-- the value of a field without size, and of a struct that has this field alone
abbrev pub sizeless : Val
sizeless = vstruct vnil

abbrev pub marked : Val
marked = vstruct (vcons sizeless vnil)

abbrev pub of_one : RattleType → RattleType
of_one R = Struct (record { name = []; args = []; types = []; fields = R ∷ [] })

pub made_of_one :
    {M : Type 1} {𝓤 : Ura M} {𝓛 : Logic 𝓤} {K : Type 0} {Γ : List (Item 𝓤)} {G : Goal 𝓤 𝓛.H} → K → (R : RattleType) (x : R.Denot) →
    Step K 𝓛 (‵ ((of_one R).own_val (x, tt) (marked ∷ [])) ∷ Γ) G (‵ (R.own_val x (sizeless ∷ [])) ∷ Γ) G
made_of_one t R x = step (λ rest.
    nothing t $ move t (1 ∷ 0 ∷ []) $ fjoin t $ feq_i t (List Val) (marked ∷ []) (marked ∷ []) refl $ fjoin t $
    fpack t (Valss (R ∷ [])) (within (record { name = []; args = []; types = []; fields = R ∷ [] }) (x, tt) (marked ∷ [])) (sizeless ∷ [], tt) $ rest)
