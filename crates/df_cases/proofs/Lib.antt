mod Newtypes
